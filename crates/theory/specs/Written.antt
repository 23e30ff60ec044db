-- Forms written out as patterns: quotes byte by byte, counted repeats copy by copy. Each leaf has a class of its own, and names it by
-- its number; the copies of a repeat share theirs. Assumes nothing.
use Rattle.std.specs.Prelude.{Bool, true, false, cond, ◌&&◌, ◌||◌, List, [], ◌∷◌, ◌++◌, map, ◌↔◌, ℕ, zero, suc, ◌+◌, ◌-◌, ◌<◌, leb, eqb, length, get_or}
use Rattle.form.specs.Form.{Form, Forms, quote, set, out, seq, or, star, rep, start, end, nil, cons}
use Rattle.form.specs.Meaning.{feed, inside, outside}
use Rattle.form.specs.Positions.{opens, only, Matches, Ending}
use Rattle.theory.specs.Pattern.{Pattern, Streams, leaf, many, plus, eps, head, tail}
use Rattle.theory.specs.Pattern
use Rattle.theory.specs.Whole.{AllSettled, Marked, border}

-- the class that holds no byte
abbrev pub nothing : ℕ → Bool
nothing byte = false

-- a union of no part holds nothing, as does a repeat of at least more than its most: each is a leaf that holds no byte
abbrev pub or_nothing : Forms → List (ℕ → Bool) → List (ℕ → Bool)
or_nothing nil classes = nothing ∷ []
or_nothing (cons part parts) classes = classes

-- the classes of a form's leaves, in order; what is repeated no time has none
abbrev mutual
  pub classes : Form → List (ℕ → Bool)
  classes (quote bytes) = map only bytes
  classes (set items) = inside items ∷ []
  classes (out items) = outside items ∷ []
  classes (seq parts) = all_classes parts
  classes (or parts) = or_nothing parts (all_classes parts)
  classes (star part) = classes part
  classes (rep least most part) = cond (leb least most) (cond (eqb most 0) [] (classes part)) (nothing ∷ [])
  classes start = []
  classes end = []

  pub all_classes : Forms → List (ℕ → Bool)
  all_classes nil = []
  all_classes (cons part parts) = classes part ++ all_classes parts

-- the bytes of a quote, whose classes have the numbers from c on
abbrev pub spelt : List ℕ → ℕ → Pattern
spelt [] c = eps
spelt (byte ∷ []) c = leaf c
spelt (byte ∷ (next ∷ bytes)) c = Pattern.seq (leaf c) (spelt (next ∷ bytes) (suc c))

-- F and then G, or one of them, where more parts follow F; else F
abbrev pub and_then : Forms → Pattern → Pattern → Pattern
and_then nil F G = F
and_then (cons part parts) F G = Pattern.seq F G

abbrev pub or_else : Forms → Pattern → Pattern → Pattern
or_else nil F G = F
or_else (cons part parts) F G = Pattern.alt F G

-- the pattern surely matches from each position to itself
abbrev pub empty : Pattern → Bool
empty (leaf c) = false
empty (many c) = true
empty (plus c) = false
empty eps = true
empty (Pattern.seq F G) = empty F && empty G
empty (Pattern.alt F G) = empty F || empty G
empty (Pattern.opt F) = true
empty (Pattern.star F) = true
empty head = false
empty tail = false

-- In a star a leaf can follow itself where all that stands before it in the star's part, and all behind it, may be empty: `first` and
-- `last`. It then takes one byte or more at once, so that a long run of bytes needs no pass for each of them.
abbrev pub stretch : (first last : Bool) → Pattern → Pattern
stretch first last (leaf c) = cond (first && last) (plus c) (leaf c)
stretch first last (many c) = many c
stretch first last (plus c) = plus c
stretch first last eps = eps
stretch first last (Pattern.seq F G) = Pattern.seq (stretch first (last && empty G) F) (stretch (first && empty F) last G)
stretch first last (Pattern.alt F G) = Pattern.alt (stretch first last F) (stretch first last G)
stretch first last (Pattern.opt F) = Pattern.opt (stretch first last F)
stretch first last (Pattern.star F) = Pattern.star F
stretch first last head = head
stretch first last tail = tail

-- a star; that of a leaf is one pattern, and needs no passes
abbrev pub loop : Pattern → Pattern
loop (leaf c) = many c
loop (many c) = Pattern.star (many c)
loop (plus c) = Pattern.star (plus c)
loop eps = Pattern.star eps
loop (Pattern.seq F G) = Pattern.star (stretch true true (Pattern.seq F G))
loop (Pattern.alt F G) = Pattern.star (stretch true true (Pattern.alt F G))
loop (Pattern.opt F) = Pattern.star (stretch true true (Pattern.opt F))
loop (Pattern.star F) = Pattern.star (Pattern.star F)
loop head = Pattern.star head
loop tail = Pattern.star tail

abbrev pub copies : ℕ → Pattern → Pattern
copies zero F = eps
copies (suc m) F = Pattern.seq F (copies m F)

-- at most d copies: each option stands inside the one before, so that there are d copies of F's leaves and no more
abbrev pub up_to : ℕ → Pattern → Pattern
up_to zero F = eps
up_to (suc d) F = Pattern.opt (Pattern.seq F (up_to d F))

-- the pattern of a form, whose classes have the numbers from c on
abbrev mutual
  pub pattern : Form → ℕ → Pattern
  pattern (quote bytes) c = spelt bytes c
  pattern (set items) c = leaf c
  pattern (out items) c = leaf c
  pattern (seq parts) c = in_order_of parts c
  pattern (or parts) c = one_of parts c
  pattern (star part) c = loop (pattern part c)
  pattern (rep least most part) c =
      cond (leb least most) (Pattern.seq (copies least (pattern part c)) (up_to (most - least) (pattern part c))) (leaf c)
  pattern start c = head
  pattern end c = tail

  pub in_order_of : Forms → ℕ → Pattern
  in_order_of nil c = eps
  in_order_of (cons part parts) c = and_then parts (pattern part c) (in_order_of parts (c + length (classes part)))

  pub one_of : Forms → ℕ → Pattern
  one_of nil c = leaf c
  one_of (cons part parts) c = or_else parts (pattern part c) (one_of parts (c + length (classes part)))

-- what a tape shows to patterns over these classes
abbrev pub shown : List (ℕ → Bool) → (ℕ → ℕ) → Streams
shown list t =
    record { class = λ c p. get_or list c nothing (t p); starts = opens t; feeds = λ p. eqb (t p) feed }

-- the streams and the pattern of a form
abbrev pub streams : Form → (ℕ → ℕ) → Streams
streams F t = shown (classes F) t

abbrev pub written : Form → Pattern
written F = pattern F 0

-- a form matches where its pattern does
abbrev pub WrittenMatches : Type 0
WrittenMatches = (F : Form) (t : ℕ → ℕ) (s p : ℕ) → Matches t F s p ↔ Pattern.Matches (streams F t) (written F) s p

-- so of settled blocks the marks are just the positions at which a match of the form ends
abbrev pub WrittenBlocks : Type 0
WrittenBlocks =
    (F : Form) (t : ℕ → ℕ) (W : ℕ) →
    0 < W →
    (n : ℕ → ℕ) (blocks : ℕ) →
    AllSettled (streams F t) W (written F) n blocks →
    (p : ℕ) →
    p < border W blocks →
    Marked (streams F t) W (written F) n blocks p ↔ Ending t F p
