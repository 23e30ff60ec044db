use Rattle.std.proofs.Common.{◌≡◌, ◌+◌, ◌-◌, ◌*◌, ◌≤◌, eqb, cond, length, max, None}
use Rattle.form.specs.Form.{Form}
use Rattle.theory.specs.Written.{classes, copies, empty, pattern, stretch}
use Rattle.tree.specs.Stands.{Stands}
use Rattle.emit.specs.Coding.{top, Writes}
use Rattle.emit.specs.declared.code.Code.{Code}
use Rattle.emit.proofs.code.Code.+copies_either_form_in_order_one_of_repeat_star_up_to.Given as goal

abbrev pub decreases-form : goal.decreases-form
decreases-form l = 1024 * l.i

abbrev pub decreases-in_order : goal.decreases-in_order
decreases-in_order l = 1024 * l.i

abbrev pub decreases-one_of : goal.decreases-one_of
decreases-one_of l = 1024 * l.i

abbrev pub decreases-either : goal.decreases-either
decreases-either l = 1024 * max l.head l.tail + 1

abbrev pub decreases-star : goal.decreases-star
decreases-star l = 1024 * l.part + 1

abbrev pub decreases-repeat : goal.decreases-repeat
decreases-repeat l = 1024 * l.part + 600

abbrev pub decreases-copies : goal.decreases-copies
decreases-copies l = 1024 * l.part.node + 1

abbrev pub decreases-up_to : goal.decreases-up_to
decreases-up_to l = 1024 * l.part.node + l.left + 1

-- what writes the copies that are left writes them all
abbrev pub invariant-copies-loop-left : goal.invariant-copies-loop-left
invariant-copies-loop-left l =
    (f : Form) → Stands l.tree f l.part.node → l.part.empty ≡ empty (pattern f l.part.class) → l.initial.place.into ≡ None → l.part.class + length (classes f) ≤ top
    → record {
      into : l.place.into ≡ None;
      next : l.next ≡ cond (eqb (l.count - l.left) 0) l.part.class (l.part.class + length (classes f));
      left : (z : Code) → Writes l.place.into l.place.depth (stretch l.place.first l.place.last (copies l.left (pattern f l.part.class))) l.self z
          → Writes l.initial.place.into l.initial.place.depth (stretch l.initial.place.first l.initial.place.last (copies l.count (pattern f l.part.class))) l.initial.self z;
    }
