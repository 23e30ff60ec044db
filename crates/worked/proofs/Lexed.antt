-- The tokens of a text, told by a test. Assumes nothing.
use Rattle.std.proofs.Common.{◌≡◌, ℕ, ◌+◌, ◌≤◌, Bool, true, ◌&&◌, eqb, ltb, leb, List, [], ◌∷◌, length, get_or, drop, refl, inl, arith}
use Rattle.std.specs.List.{prefix_len}
use Rattle.std.specs.Str.{bytes_eq}
use Rattle.std.proofs.lemmas.Bool.{and_parts, ltb-true, leb-true, eqb-true}
use Rattle.std.proofs.lemmas.Slice.Eq.{bytes_eq-Decides}
use Rattle.lexer.specs.declared.Class.{Class}
use Rattle.lexer.specs.declared.Class.TheVariants.{Space, Letter, Quoted}
use Rattle.lexer.specs.Tokens.{Tok, opening, closing, word, quote, in_class, part, Run, MarkAt, TokenAt, Ends, Tokens}
use Rattle.lexer.proofs.Runs.{runs}
use Rattle.tree.specs.Nodes.{longest}
use Rattle.form.specs.Form.{Form}
use Rattle.grammar.specs.Grammar.{Text}
use Rattle.grammar.specs.Verdicts.{Settles, accepted}

-- where the run of the class c from a on ends
abbrev until : Class → List ℕ → ℕ → ℕ
until c x a = a + prefix_len (in_class c) (drop a x)

until_runs : (c : Class) (x : List ℕ) (a : ℕ) → a ≤ length x → Run c x a (until c x a)
until_runs c x a h = runs c x a _ h refl

-- at s stands the byte b
abbrev marked : List ℕ → ℕ → ℕ → Bool
marked x b s = ltb s (length x) && eqb (get_or x s 0) b

-- where the token t ends that is looked for at s
abbrev past : Tok → List ℕ → ℕ → ℕ
past opening x s = s + 1
past closing x s = s + 1
past (word w) x s = until Letter x s
past (quote q) x s = until Quoted x (s + 1) + 1

-- the token t stands at s
abbrev stands : Tok → List ℕ → ℕ → Bool
stands opening x s = marked x 40 s
stands closing x s = marked x 41 s
stands (word w) x s = ltb s (until Letter x s) && bytes_eq w (part x s (until Letter x s))
stands (quote q) x s =
    marked x 34 s && (marked x 34 (until Quoted x (s + 1)) && bytes_eq q (part x (s + 1) (until Quoted x (s + 1))))

marks : (x : List ℕ) (b s : ℕ) → marked x b s ≡ true → MarkAt x b s (s + 1)
marks x b s h =
    let p = and_parts (ltb s (length x)) _ h in
    record { inside = ltb-true s (length x) p.0; byte = eqb-true (get_or x s 0) b p.1; to = refl }

token : (t : Tok) (x : List ℕ) (s : ℕ) → s ≤ length x → stands t x s ≡ true → TokenAt t x s (past t x s)
token opening x s l h = marks x 40 s h
token closing x s l h = marks x 41 s h
token (word w) x s l h =
    let p = and_parts (ltb s (until Letter x s)) _ h in
    record { some = ltb-true s (until Letter x s) p.0; run = until_runs Letter x s l; text = (bytes_eq-Decides w _).0 p.1 }
token (quote q) x s l h =
    let p = and_parts (marked x 34 s) _ h in
    let r = and_parts (marked x 34 (until Quoted x (s + 1))) _ p.1 in
    let m = marks x 34 s p.0 in
    let n = marks x 34 (until Quoted x (s + 1)) r.0 in
    record {
      inside = m.inside;
      byte = m.byte;
      shut = until Quoted x (s + 1);
      run = until_runs Quoted x (s + 1) (omega arith);
      shut_inside = n.inside;
      shut_byte = n.byte;
      to = refl;
      text = (bytes_eq-Decides q _).0 r.1;
    }

-- from p on stand the tokens ts, and then the text is at its end
abbrev lexed : List ℕ → List Tok → ℕ → Bool
lexed x [] p = leb p (length x) && eqb (until Space x p) (length x)
lexed x (t ∷ ts) p = leb p (length x) && (stands t x (until Space x p) && lexed x ts (past t x (until Space x p)))

tokens : (x : List ℕ) (ts : List Tok) (p : ℕ) → lexed x ts p ≡ true → (to : ℕ) × Tokens x ts p to × Ends x to
tokens x [] p h =
    let a = and_parts (leb p (length x)) _ h in
    (p, refl, record { from = until Space x p; skips = until_runs Space x p (leb-true p (length x) a.0); last = inl (eqb-true _ _ a.1) })
tokens x (t ∷ ts) p h =
    let a = and_parts (leb p (length x)) _ h in
    let b = and_parts (stands t x (until Space x p)) _ a.1 in
    let r = until_runs Space x p (leb-true p (length x) a.0) in
    let l = token t x (until Space x p) r.within b.0 in
    let m = tokens x ts (past t x (until Space x p)) b.1 in
    (m.0, (until Space x p, past t x (until Space x p), record { skips = r; token = l }, m.1), m.2)

-- a text whose tokens pass the test has the form that they stand for
pub settles : {x : List ℕ} {ts : List Tok} {F : Form} → Text true F ts → (leb (length x) longest && lexed x ts 0) ≡ true → Settles x (accepted F)
settles {x} {ts} {F} t h =
    let a = and_parts (leb (length x) longest) _ h in
    let m = tokens x ts 0 a.1 in
    inl (leb-true (length x) longest a.0, record { tokens = ts; to = m.0; spans = m.1; ends = m.2; text = t })
