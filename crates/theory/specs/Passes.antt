-- How many passes a block can take. Assumes nothing.
use Rattle.std.specs.Prelude.{Bool, true, false, List, [], ◌∷◌, ◌⊎◌, ◌≡◌, ℕ, suc, ◌+◌, ◌*◌, ◌<◌, ◌≤◌, length}
use Rattle.theory.specs.Pattern.{Pattern, Streams, leaf, many, plus, eps, seq, alt, opt, star, head, tail}
use Rattle.theory.specs.Block.{Carry, Regs, bits, regs, passes, Settled}

abbrev pub zeros : List Bool → ℕ
zeros [] = 0
zeros (true ∷ m) = zeros m
zeros (false ∷ m) = suc (zeros m)

-- the zeros that the registers have left: the measure of the passes
abbrev pub room : (F : Pattern) → Regs (List Bool) F → ℕ
room (leaf C) r = 0
room (many C) r = 0
room (plus C) r = 0
room eps r = 0
room (seq F G) r = room F r.0 + room G r.1
room (alt F G) r = room F r.0 + room G r.1
room (opt F) r = room F r
room (star F) r = zeros r.0 + room F r.1
room head r = 0
room tail r = 0

-- each register has W places
abbrev pub Wide : ℕ → (F : Pattern) → Regs (List Bool) F → Type 0
Wide W (leaf C) r = Unit {0}
Wide W (many C) r = Unit {0}
Wide W (plus C) r = Unit {0}
Wide W eps r = Unit {0}
Wide W (seq F G) r = Wide W F r.0 × Wide W G r.1
Wide W (alt F G) r = Wide W F r.0 × Wide W G r.1
Wide W (opt F) r = Wide W F r
Wide W (star F) r = (length r.0 ≡ W) × Wide W F r.1
Wide W head r = Unit {0}
Wide W tail r = Unit {0}

abbrev pub stars : Pattern → ℕ
stars (leaf C) = 0
stars (many C) = 0
stars (plus C) = 0
stars eps = 0
stars (seq F G) = stars F + stars G
stars (alt F G) = stars F + stars G
stars (opt F) = stars F
stars (star F) = suc (stars F)
stars head = 0
stars tail = 0

-- a pass changes no register, or leaves less room
abbrev pub PassesFall : Type 0
PassesFall =
    (t : Streams) (a W : ℕ) (F : Pattern) (k : Carry F) (m : List Bool) (r : Regs (List Bool) F) →
    Wide W F r →
    Settled t a W F k m r ⊎ (room F (regs (bits t a W) F k r m) < room F r)

-- so a block is settled after at most as many passes as the registers have places
abbrev pub PassesEnd : Type 0
PassesEnd =
    (t : Streams) (a W : ℕ) (F : Pattern) (k : Carry F) (m : List Bool) →
    (n : ℕ) × (n ≤ stars F * W) × Settled t a W F k m (passes t a W F k m n)
