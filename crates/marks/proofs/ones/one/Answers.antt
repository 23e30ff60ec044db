-- The byte is a power of two, at its group. Assumes nothing.
use Rattle.std.proofs.Common.{◌%◌, ◌∙◌, arith}
use Rattle.std.proofs.lemmas.Nat.{one_shl}
use Rattle.marks.proofs.Bytes.{put_one}
use Rattle.marks.proofs.ones.one.Goals as goal

pub returns : goal.returns
returns g c =
    let p = c.args.p in
    let put = c.put.ensures in
    record {
      within = λ h.
          put_one g.B.Block.places _ _ p _ g.met.B.Block.whole_bytes (g.met.B.Block.wide c.put.result) c.none.ensures
          (one_shl (p % 8) 8 (omega arith)) h put;
      past = λ h. put.past (omega arith) ∙ c.none.ensures;
    }
