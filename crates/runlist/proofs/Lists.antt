-- A run list by its changes. Assumes nothing.
use Rattle.std.proofs.Common.{◌≡◌, length, arith, length-take-le}
use Rattle.runlist.specs.declared.list.RunList.{RunList}
use Rattle.runlist.specs.Lists.{kept}

pub kept-length : (r : RunList) → length (kept r) ≡ r.count
kept-length r = length-take-le r.count r.at (omega arith)
