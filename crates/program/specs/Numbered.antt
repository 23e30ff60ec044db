-- The carries and the star rows of a pattern by number. Assumes nothing.
use Rattle.std.specs.Prelude.{ℕ, suc, ◌+◌, ◌<◌, Bool, List}
use Rattle.theory.specs.Pattern.{Pattern, leaf, many, plus, eps, seq, alt, opt, star, head, tail}
use Rattle.theory.specs.Block.{Carry, Regs}
use Rattle.theory.specs.Passes.{stars}

-- how many carries a pattern has
abbrev pub leaves : Pattern → ℕ
leaves (leaf c) = 1
leaves (many c) = 1
leaves (plus c) = 1
leaves eps = 0
leaves (seq F G) = leaves F + leaves G
leaves (alt F G) = leaves F + leaves G
leaves (opt F) = leaves F
leaves (star F) = leaves F
leaves head = 0
leaves tail = 0

-- the carries from the number k on
abbrev pub carries_of : (F : Pattern) → ℕ → (ℕ → Bool) → Carry F
carries_of (leaf c) k f = f k
carries_of (many c) k f = f k
carries_of (plus c) k f = f k
carries_of eps k f = tt
carries_of (seq F G) k f = (carries_of F k f, carries_of G (k + leaves F) f)
carries_of (alt F G) k f = (carries_of F k f, carries_of G (k + leaves F) f)
carries_of (opt F) k f = carries_of F k f
carries_of (star F) k f = carries_of F k f
carries_of head k f = tt
carries_of tail k f = tt

-- the star rows from the number s on, a star's before those inside it
abbrev pub rows_of : (F : Pattern) → ℕ → (ℕ → List Bool) → Regs (List Bool) F
rows_of (leaf c) s f = tt
rows_of (many c) s f = tt
rows_of (plus c) s f = tt
rows_of eps s f = tt
rows_of (seq F G) s f = (rows_of F s f, rows_of G (s + stars F) f)
rows_of (alt F G) s f = (rows_of F s f, rows_of G (s + stars F) f)
rows_of (opt F) s f = rows_of F s f
rows_of (star F) s f = (f s, rows_of F (suc s) f)
rows_of head s f = tt
rows_of tail s f = tt

-- the classes have numbers below n
abbrev pub Classed : ℕ → Pattern → Type 0
Classed n (leaf c) = c < n
Classed n (many c) = c < n
Classed n (plus c) = c < n
Classed n eps = Unit {0}
Classed n (seq F G) = Classed n F × Classed n G
Classed n (alt F G) = Classed n F × Classed n G
Classed n (opt F) = Classed n F
Classed n (star F) = Classed n F
Classed n head = Unit {0}
Classed n tail = Unit {0}
