-- The tokens of a text: a relation between its bytes and its tokens. Assumes nothing.
use Rattle.std.specs.Prelude.{◌≡◌, ℕ, ◌+◌, ◌<◌, ◌≤◌, Bool, true, false, not, ◌&&◌, ◌||◌, ◌⊎◌, List, [], ◌∷◌, length, ◌==◌, nat_le, slice_index, slice_index_or, slice_range}
use Rattle.lexer.specs.declared.Class.{Class}
use Rattle.lexer.specs.declared.Class.TheVariants.{Space, Letter, Quoted}
use Rattle.lexer.specs.declared.Token.{Token}
use Rattle.lexer.specs.declared.Token.TheVariants.{Open, Close, Word, Quote, End}

-- a token, with the bytes that it holds
pub data Tok : Type 0 where
  opening : Tok
  closing : Tok
  word : List ℕ → Tok
  quote : List ℕ → Tok

abbrev pub between : ℕ → ℕ → ℕ → Bool
between a z b = nat_le a b && nat_le b z

-- the bytes that are skipped; those of a word, a–z, A–F, 0–9 and the hyphen; those of a quote, 20–7E but for its mark, 22
abbrev pub in_class : Class → ℕ → Bool
in_class Space b = b == 32
in_class Letter b = between 97 122 b || between 65 70 b || between 48 57 b || b == 45
in_class Quoted b = between 32 126 b && not (b == 34)

-- from a up to e stands the longest run of bytes of the class c
pub record Run (c : Class) (x : List ℕ) (a e : ℕ) : Type 0 where
  pub rises : a ≤ e
  pub within : e ≤ length x
  pub all : (k : ℕ) → k < e → a ≤ k → in_class c (slice_index x k) ≡ true
  pub stops : e < length x → in_class c (slice_index x e) ≡ false

-- the bytes from a up to e
abbrev pub part : List ℕ → ℕ → ℕ → List ℕ
part x a e = slice_range x a e

-- at s stands the one byte b
pub record MarkAt (x : List ℕ) (b s e : ℕ) : Type 0 where
  pub inside : s < length x
  pub byte : slice_index_or x s 0 ≡ b
  pub to : e ≡ s + 1

pub record WordAt (x : List ℕ) (w : List ℕ) (s e : ℕ) : Type 0 where
  pub some : s < e
  pub run : Run Letter x s e
  pub text : w ≡ part x s e

-- a quote's bytes are what stands between its marks
pub record QuoteAt (x : List ℕ) (q : List ℕ) (s e : ℕ) : Type 0 where
  pub inside : s < length x
  pub byte : slice_index_or x s 0 ≡ 34
  pub shut : ℕ
  pub run : Run Quoted x (s + 1) shut
  pub shut_inside : shut < length x
  pub shut_byte : slice_index_or x shut 0 ≡ 34
  pub to : e ≡ shut + 1
  pub text : q ≡ part x (s + 1) shut

-- the token t stands at s and ends before e
abbrev pub TokenAt : Tok → List ℕ → ℕ → ℕ → Type 0
TokenAt opening x s e = MarkAt x 40 s e
TokenAt closing x s e = MarkAt x 41 s e
TokenAt (word w) x s e = WordAt x w s e
TokenAt (quote q) x s e = QuoteAt x q s e

-- the text is at its end: no byte is left, or a final line feed alone
abbrev pub EndAt : List ℕ → ℕ → Type 0
EndAt x s = (s ≡ length x) ⊎ ((s + 1 ≡ length x) × (slice_index x s ≡ 10))

-- from p on, spaces skipped, the token t stands at s and ends before e
pub record Lexes (x : List ℕ) (p : ℕ) (t : Tok) (s e : ℕ) : Type 0 where
  pub skips : Run Space x p s
  pub token : TokenAt t x s e

-- from p on, spaces skipped, the text is at its end
pub record Ends (x : List ℕ) (p : ℕ) : Type 0 where
  pub from : ℕ
  pub skips : Run Space x p from
  pub last : EndAt x from

-- from p on, spaces skipped, stands at s a byte with which no token begins, nor is it the text's end
pub record Stray (x : List ℕ) (p s : ℕ) : Type 0 where
  pub skips : Run Space x p s
  pub none : (t : Tok) (e : ℕ) → TokenAt t x s e → ⊥
  pub more : EndAt x s → ⊥

-- from p to q stand the tokens ts
abbrev pub Tokens : List ℕ → List Tok → ℕ → ℕ → Type 0
Tokens x [] p q = p ≡ q
Tokens x (t ∷ ts) p q = (s e : ℕ) × Lexes x p t s e × Tokens x ts e q

-- from p on comes the token t of the code, at the place s, and what follows it begins at e; the end has the text's length as its place
abbrev pub Next : Token → List ℕ → ℕ → ℕ → ℕ → Type 0
Next Open x p s e = Lexes x p opening s e
Next Close x p s e = Lexes x p closing s e
Next (Word w) x p s e = Lexes x p (word w.now) s e
Next (Quote q) x p s e = Lexes x p (quote q.now) s e
Next End x p s e = Ends x p × (s ≡ length x) × (e ≡ length x)
