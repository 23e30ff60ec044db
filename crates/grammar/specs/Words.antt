-- What the words of a text spell. Assumes nothing.
use Rattle.std.specs.Prelude.{ℕ, ◌+◌, ◌-◌, ◌*◌, Bool, cond, ◌&&◌, ◌||◌, List, [], ◌∷◌, Some, None, Option, ◌==◌, nat_le}
use Rattle.lexer.specs.Tokens.{between}
use Rattle.form.specs.Form.{Item}

abbrev pub is_digit : ℕ → Bool
is_digit b = between 48 57 b

-- 0–9 and A–F
abbrev pub is_hex : ℕ → Bool
is_hex b = is_digit b || between 65 70 b

abbrev pub hex_of : ℕ → ℕ
hex_of b = cond (nat_le b 57) (b - 48) (b - 55)

abbrev pub byte_of : ℕ → ℕ → ℕ
byte_of a b = hex_of a * 16 + hex_of b

-- the item that a word spells, HH or HH-HH
abbrev pub item_of : List ℕ → Option Item
item_of [] = None
item_of (a ∷ []) = None
item_of (a ∷ b ∷ []) = cond (is_hex a && is_hex b) (Some (record { low = byte_of a b; high = byte_of a b })) None
item_of (a ∷ b ∷ c ∷ []) = None
item_of (a ∷ b ∷ c ∷ d ∷ []) = None
item_of (a ∷ b ∷ c ∷ d ∷ e ∷ []) = cond (is_hex a && is_hex b && (c == 45 && (is_hex d && is_hex e))) (Some (record { low = byte_of a b; high = byte_of d e })) None
item_of (a ∷ b ∷ c ∷ d ∷ e ∷ f ∷ r) = None

-- the number that a word of one to three digits spells
abbrev pub number_of : List ℕ → Option ℕ
number_of [] = None
number_of (a ∷ []) = cond (is_digit a) (Some (a - 48)) None
number_of (a ∷ b ∷ []) = cond (is_digit a && is_digit b) (Some ((a - 48) * 10 + (b - 48))) None
number_of (a ∷ b ∷ c ∷ []) = cond (is_digit a && (is_digit b && is_digit c)) (Some ((a - 48) * 100 + (b - 48) * 10 + (c - 48))) None
number_of (a ∷ b ∷ c ∷ d ∷ r) = None
