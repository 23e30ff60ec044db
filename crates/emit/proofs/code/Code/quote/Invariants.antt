use Rattle.std.proofs.Common.{◌≡◌, ℕ, ◌+◌, ◌-◌, ◌≤◌, List, length, drop, Option}
use Rattle.theory.specs.Written.{spelt}
use Rattle.emit.specs.Coding.{top, Writes}
use Rattle.emit.specs.declared.code.Code.{Code}
use Rattle.emit.proofs.code.Code.quote.Given as goal

-- nothing is written before the first byte, and what writes the bytes that are left writes them all
abbrev pub invariant-loop-before : goal.invariant-loop-before
invariant-loop-before l = record {
  first : l.before ≡ l.class → l.self ≡ l.initial.self;
  left : (bs : List ℕ) (d : ℕ) (m : Option ℕ) (z : Code) → length bs ≡ l.bytes → l.class + l.bytes ≤ top
      → Writes m d (spelt (drop (l.before - l.class) bs) l.before) l.self z → Writes m d (spelt bs l.class) l.initial.self z;
}
