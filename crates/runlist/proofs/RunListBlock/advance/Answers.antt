use Rattle.std.proofs.Common.{◌≡◌, suc, ◌+◌, sym, ap, ◌∙◌, arith}
use Rattle.block.proofs.Rows.{bit_tab}
use Rattle.runlist.specs.Changes.{odd}
use Rattle.runlist.proofs.Changes.{last_bit}
use Rattle.runlist.specs.Lists.{kept, lit}
use Rattle.runlist.proofs.Lists.{kept-length}
use Rattle.runlist.proofs.Rows.{row_moved}
use Rattle.runlist.proofs.RunListBlock.advance.Goals as goal

pub returns : goal.returns
returns c =
    let a = c.args.self in
    record {
      moved =
          row_moved 64 (lit a) (lit c.copy.new.self.list) c.args.enter
          (c.copy.ensures.before 0 (omega arith) ∙ c.push.ensures.here 0 (omega arith) (omega arith))
          (λ j h.
          let s : suc j ≡ c.push.new.self.place + j = omega arith in
          let t : c.to.result.place + j ≡ j = omega arith in
          ap (lit c.copy.new.self.list) s ∙ c.copy.ensures.here j (omega arith) ∙ (λ z. lit (c.to.ensures.list z) (t z)));
      fallen =
          c.is_odd.ensures ∙ ap odd (c.from.ensures ∙ sym (kept-length a))
          ∙ sym (bit_tab 64 (lit a) 63 (omega arith) ∙ last_bit 64 63 (kept a) a.rising (omega arith));
    }
