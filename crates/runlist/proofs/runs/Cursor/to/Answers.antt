use Rattle.std.proofs.Common.{◌≡◌, true, false, ltb, ap, arith, rules, ◌≤◌, length}
use Rattle.std.specs.List.Sorted.{IsPartitionPoint, IsPartitionedBy}
use Rattle.std.proofs.lemmas.List.Sorted.{IsPartitionPoint-from_clause}
use Rattle.runlist.specs.Lists.{kept}
use Rattle.runlist.proofs.Changes.{partitioned, passed_before, next_behind}
use Rattle.runlist.proofs.Lists.{kept-length}
use Rattle.runlist.proofs.runs.Cursor.to.Goals as goal

pub invariant_of-result : goal.invariant_of-result
invariant_of-result c =
    let r = c.args.list.now in
    let l = kept r in
    let p = c.args.place in
    let n = c.partition_point-passed.result in
    let halves : IsPartitionedBy (λ y. ltb y p) c.changes.result.now = rw c.changes.ensures (partitioned 64 l r.rising p) in
    let found : IsPartitionPoint (λ y. ltb y p ≡ true) (λ y. ltb y p ≡ false) c.changes.result.now n =
    IsPartitionPoint-from_clause (λ y. ltb y p) _ n c.partition_point-passed.ensures.partitioned halves (λ a r f call. search rules) in
    let point = rw c.changes.ensures at found in
    let many = kept-length r in
    let within : n ≤ length l = omega (arith, c.partition_point-passed.ensures.bound, ap length c.changes.ensures) in
    record {
      within = omega (arith, many, within);
      before = passed_before 64 l r.rising n p within c.requires point.0;
      behind = next_behind 64 l r.rising n p within c.requires point.1;
    }
