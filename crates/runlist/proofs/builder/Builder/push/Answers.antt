use Rattle.std.proofs.Common.{◌≡◌, Bool, true, false, not, set, take, sym, refl, ap, ◌∙◌, arith, rules}
use mathlib.Core.Bool.{beq}
use Rattle.runlist.specs.Changes.{odd}
use Rattle.runlist.proofs.Changes.{Pushed, push_turn, push_stay, rises_more}
use Rattle.runlist.proofs.builder.Builder.push.Goals as goal
use Rattle.runlist.proofs.builder.Builder.push.Goals.{Joined-self-end, then-self-end+then-is_odd-bit, else-self-end, else-self-end-via-then-self-end+else-is_odd-bit, else-self-end-via-else-self-end}

differs : (x y : Bool) → not (beq x y) ≡ true → not x ≡ y
differs true y e = grind arith
differs false y e = grind arith

agrees : (x y : Bool) → not (beq x y) ≡ false → x ≡ y
agrees true y e = grind arith
agrees false y e = grind arith

pushed : (c : Joined-self-end) → Pushed c.args.self.now.list.at c.args.self.now.list.count c.if-self-end.at c.if-self-end.count c.args.self.now.place c.args.end c.args.bit
pushed c =
    let m = c.args.self.now in
    elim c.if-self-end.branch [
      | then-self-end+then-is_odd-bit w ↦ push_turn _ _ _ _ _ _ _ m.room (omega arith) m.rising (omega arith) (omega arith) (ap not (sym (w.is_odd.ensures ∙ ap odd c.from-next.ensures)) ∙ differs w.is_odd.result c.args.bit w.if-is_odd-bit.true) (w.at-is ∙ ap (λ n. set m.list.at n m.place) c.from-next.ensures) w.count-is
      | else-self-end w ↦
          push_stay _ _ _ _ _ _ _ m.room (omega arith) m.rising (omega arith)
          (λ h. elim w.else-self-end.branch [
            | else-self-end-via-then-self-end+else-is_odd-bit v ↦ sym (v.is_odd.ensures ∙ ap odd c.from-next.ensures) ∙ agrees v.is_odd.result c.args.bit v.if-is_odd-bit.false
            | else-self-end-via-else-self-end v ↦ absurd (omega arith)
          ]) w.at-is w.count-is
    ]

pub invariant_of-self : goal.invariant_of-self
invariant_of-self c = let s = pushed c in record { long = search rules; fits = omega arith; rising = rises_more 0 c.args.end 64 (take c.if-self-end.count c.if-self-end.at) (omega arith) s.rising }

pub invariant_of-self-2 : goal.invariant_of-self-2
invariant_of-self-2 c = let s = pushed (goal.at.invariant_of-self-2 c).Joined-self-end in record { room = s.room; ends = omega arith; rising = s.rising }

pub returns : goal.returns
returns c = let s = pushed (goal.at.returns c).Joined-self-end in record { place = refl; here = s.here; before = s.before }
