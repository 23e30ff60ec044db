-- What is read is made of its parts. Assumes nothing.
-- Each call says that it keeps the text, so x, y and z are one.
use Rattle.std.proofs.Common.{◌≡◌, ℕ, ◌+◌, ◌<◌, ◌≤◌, true, List, [], ◌∷◌, ◌++◌, map, length, sym, refl, ap, ◌∙◌, subst, append_assoc, arith, Bor}
use Rattle.lexer.specs.declared.Token.{Token}
use Rattle.lexer.specs.declared.Token.TheVariants as token
use Rattle.lexer.specs.Tokens.{Tok, opening, closing, word, quote, Lexes, Tokens, Next}
use Rattle.form.specs.Form.{quote as quoted, set, out, seq, or, star, rep, start, end, nil, cons}
use Rattle.grammar.specs.Grammar.{deepest, FormAt, FormsAt}
use Rattle.grammar.specs.Names.{name}
use Rattle.grammar.specs.declared.Head.TheVariants as head
use Rattle.tree.specs.declared.node.Node.{Node}
use Rattle.tree.specs.declared.node.Node.TheVariants as node
use Rattle.tree.specs.Nodes.{longest}
use Rattle.tree.proofs.Growing.{stands_more, grows_on, grows_same, grows_pushed, grows_quoted, grows_ranged, pushed_stands, pushed_nil, pushed_cons, quoted_holds, ranged_pieces}
use Rattle.std.proofs.lemmas.List.{length_push, length-append, length-take, length-drop}
use Rattle.tree.specs.declared.node.Range.{Range}
use Rattle.tree.specs.declared.store.Tree.{Tree}
use Rattle.tree.specs.Stands.{nodes_of, bytes_of, ranges_of, item, Pushed, Quoted}
use Rattle.reader.specs.Reading.{Between, RoomAt, Added, CountsRead, ItemRead, ItemsRead, HeadedRead, FormRead, SingleRead, ListRead, SomeRead}

-- the token that a pattern has found
pub as_open : (x : List ℕ) (p s e : ℕ) (t : Token) → t ≡ token.Open → Next t x p s e → Lexes x p opening s e
as_open x p s e t is l = subst (λ v. Next v x p s e) is l

pub as_quote : (x : List ℕ) (p s e : ℕ) (t : Token) (q : Bor (List ℕ)) → t ≡ token.Quote q → Next t x p s e → Lexes x p (quote q.now) s e
as_quote x p s e t q is l = subst (λ v. Next v x p s e) is l

-- a token, and how far it lies
pub word_on : {x : List ℕ} {p s e : ℕ} {w : List ℕ} → Lexes x p (word w) s e → p < e
word_on l = omega (arith, l.skips.rises, l.token.some)

pub shut_on : {x : List ℕ} {p s e : ℕ} → Lexes x p closing s e → p < e
shut_on l = omega (arith, l.skips.rises, l.token.to)

pub items_more : {x y : List ℕ} {p q r : ℕ} (t u v : Tree) (kept : List Range) (a : ItemRead x p q t u) → y ≡ x → ItemsRead y q r u v kept → ItemsRead x p r t v (a.range ∷ kept)
items_more {x} {y} {p} {q} {r} t u v kept a same b =
    record {
      nodes = b.nodes ∙ a.ranged.nodes;
      bytes = b.bytes ∙ a.ranged.bytes;
      ranges = b.ranges ∙ ap (λ l. l ++ kept) a.ranged.ranges ∙ append_assoc (ranges_of t) (a.range ∷ []) kept;
      reads = λ us f k.
          let g = b.reads us f (subst (λ l. Tokens l us r f) (sym same) k) in
          let h = a.reads g.0 f (subst (λ l. Tokens l g.0 q f) same g.1) in
          (h.0, h.1, (h.2.0, g.0, h.2.1, h.2.2, h.2.3, g.2));
      on = omega (arith, a.on, b.on);
      room = b.room;
    }

pub open_on : {x : List ℕ} {p s e : ℕ} → Lexes x p opening s e → p < e
open_on l = omega (arith, l.skips.rises, l.token.to)

-- a quote has two bytes more than it holds
pub quote_long : {x : List ℕ} {p s e : ℕ} {q : List ℕ} → Lexes x p (quote q) s e → length q + p + 2 ≤ e
quote_long {x} {s = s} l =
    let r = l.token.run in
    omega (arith, l.skips.rises, l.token.to, r.rises, r.within, simp (length-take, length-drop) at (ap length l.token.text))

-- room
pub room_on : {x y : List ℕ} {p q : ℕ} {t : Tree} → RoomAt x t p → y ≡ x → p ≤ q → RoomAt y t q
room_on r same h =
    record { short = omega (arith, ap length same, r.short); nodes = omega (arith, r.nodes); bytes = omega (arith, r.bytes); ranges = omega (arith, r.ranges) }

pub room_push : {x y : List ℕ} {p q : ℕ} {t u : Tree} → RoomAt x t p → Added p q 1 t u → y ≡ x → q ≤ length y → length (nodes_of u) < longest
room_push r a same h = omega (arith, ap length same, r.short, r.nodes, a.nodes)

added_after : {p m q less : ℕ} {t u : Tree} → p < m → Added m q less t u → Added p q 1 t u
added_after h a =
    record { grows = a.grows; on = omega (arith, a.on); nodes = omega (arith, a.nodes); bytes = a.bytes; ranges = a.ranges }

added_none : {x : List ℕ} {p q : ℕ} (t : Tree) → RoomAt x t p → p < q → Added p q 1 t t
added_none t r h =
    record { grows = grows_same t t (record { nodes = refl; bytes = refl; ranges = refl }); on = h; nodes = omega arith; bytes = omega (arith, r.bytes); ranges = omega (arith, r.ranges) }

-- a node is pushed behind what a part has added
added_push : {p q less : ℕ} {t u v : Tree} {n : Node} {i : ℕ} → Added p q (less + 1) t u → Pushed u v n i → Added p q less t v
added_push {t = t} {u = u} {v = v} {n = n} a w =
    record {
      grows = grows_on t u v a.grows (grows_pushed u v _ _ w);
      on = a.on;
      nodes = omega (arith, a.nodes, ap length w.nodes, length_push (nodes_of u) n);
      bytes = omega (arith, a.bytes, ap length w.bytes);
      ranges = omega (arith, a.ranges, ap length w.ranges);
    }

-- what follows the word that names a form
module _ {x y : List ℕ} {p s m : ℕ} {w : List ℕ} (l : Lexes x p (word w) s m) (same : y ≡ x) where
  after_word : (P : List Tok → List Tok → Type 0) (v : List ℕ) {q : ℕ} → w ≡ v → Between P y m q → (us : List Tok) (r : ℕ) → Tokens x us q r → (ts : List Tok) × Tokens x ts p r × ((vs : List Tok) × (ts ≡ word v ∷ vs) × P vs us)
  after_word P v {q} e b us r k =
      let g = b us r (subst (λ u. Tokens u us q r) (sym same) k) in
      (word w ∷ g.0, (s, m, l, subst (λ u. Tokens u g.0 m r) same g.1), (g.0, ap (λ u. word u ∷ g.0) e, g.2))

  items_added : {q : ℕ} {t u : Tree} {kept : List Range} → RoomAt x t p → ItemsRead y m q t u kept → Added p q 1 t u
  items_added {q} {t} {u} {kept} r b =
      record {
        grows = grows_ranged t u kept b.nodes b.bytes b.ranges;
        on = omega (arith, word_on l, b.on);
        nodes = omega (arith, word_on l, b.on, ap length b.nodes);
        bytes = omega (arith, word_on l, b.on, ap length b.bytes, r.bytes);
        ranges = b.room;
      }

  pub set_read : {q d a e : ℕ} {t u : Tree} {first : Range} {kept : List Range} → w ≡ name head.Set → RoomAt x t p → ItemsRead y m q t u (first ∷ kept) → a ≡ length (ranges_of t) → e ≡ length (ranges_of u) → HeadedRead x p q d t u (node.Set a e)
  set_read {a = a} {e = e} {t = t} {u = u} {first = first} {kept = kept} is r b from to =
      record {
        form = set (map item (first ∷ kept));
        holds = (_, _, (ap (λ v. node.Set v e) from ∙ ap (node.Set (length (ranges_of t))) to), ranged_pieces t u (first ∷ kept) b.ranges);
        reads = λ c at h us f k. let g = after_word _ (name head.Set) is b.reads us f k in (g.0, g.1, (g.2.0, (h, ap (λ v. opening ∷ v) g.2.1), g.2.2));
        added = items_added r b;
      }

  pub out_read : {q d a e : ℕ} {t u : Tree} {kept : List Range} → w ≡ name head.Out → RoomAt x t p → ItemsRead y m q t u kept → a ≡ length (ranges_of t) → e ≡ length (ranges_of u) → HeadedRead x p q d t u (node.Out a e)
  out_read {a = a} {e = e} {t = t} {u = u} {kept = kept} is r b from to =
      record {
        form = out (map item kept);
        holds = (_, _, (ap (λ v. node.Out v e) from ∙ ap (node.Out (length (ranges_of t))) to), ranged_pieces t u kept b.ranges);
        reads = λ c at h us f k. let g = after_word _ (name head.Out) is b.reads us f k in (g.0, g.1, (g.2.0, (h, ap (λ v. opening ∷ v) g.2.1), g.2.2));
        added = items_added r b;
      }

  pub seq_read : {q d i : ℕ} {t u : Tree} → w ≡ name head.Seq → ListRead y m q d t u i → HeadedRead x p q d t u (node.Seq i)
  seq_read is b =
      record {
        form = seq b.forms;
        holds = (_, refl, b.stand);
        reads = λ c at h us f k. let g = after_word _ (name head.Seq) is b.reads us f k in (g.0, g.1, (g.2.0, (h, ap (λ v. opening ∷ v) g.2.1), subst (λ v. FormsAt true b.forms v g.2.0 us) at g.2.2));
        added = added_after (word_on l) b.added;
      }

  pub or_read : {q d i : ℕ} {t u : Tree} → w ≡ name head.Or → SomeRead y m q d t u i → HeadedRead x p q d t u (node.Or i)
  or_read is b =
      record {
        form = or (cons b.first b.rest);
        holds = (_, refl, b.stand);
        reads = λ c at h us f k. let g = after_word _ (name head.Or) is b.reads us f k in (g.0, g.1, (g.2.0, (h, ap (λ v. opening ∷ v) g.2.1), subst (λ v. FormsAt true (cons b.first b.rest) v g.2.0 us) at g.2.2));
        added = added_after (word_on l) b.added;
      }

  pub star_read : {q d i : ℕ} {t u : Tree} → w ≡ name head.Star → SingleRead y m q d t u i → HeadedRead x p q d t u (node.Star i)
  star_read is b =
      record {
        form = star b.form;
        holds = (_, refl, b.stands);
        reads = λ c at h us f k. let g = after_word _ (name head.Star) is b.reads us f k in (g.0, g.1, (g.2.0, (h, ap (λ v. opening ∷ v) g.2.1), subst (λ v. FormAt true b.form v g.2.0 (closing ∷ us)) at g.2.2));
        added = added_after (word_on l) b.added;
      }

  pub rep_read : {z : List ℕ} {n q d i j k : ℕ} {t u : Tree} → w ≡ name head.Rep → CountsRead y m n j k → z ≡ y → SingleRead z n q d t u i → HeadedRead x p q d t u (node.Rep j k i)
  rep_read {z} {n} {q} {d} {i} {j} {k} is a alike b =
      record {
        form = rep j k b.form;
        holds = (_, refl, b.stands);
        reads = λ c at h us f g.
            let back = subst (λ v. Tokens v us q f) (sym (alike ∙ same)) g in
            let o = b.reads us f back in
            let r = after_word _ (name head.Rep) is a.reads o.0 f (subst (λ v. Tokens v o.0 n f) (alike ∙ same) o.1) in
            let e = r.2.2 in
            (r.0, r.1, (e.0, e.1, o.0, (h, ap (λ v. opening ∷ v) r.2.1 ∙ ap (λ v. opening ∷ word (name head.Rep) ∷ v) e.2), e.3, e.4, a.bounds, subst (λ v. FormAt true b.form v o.0 (closing ∷ us)) at o.2));
        added = added_after (omega (arith, word_on l, a.on)) b.added;
      }

  bare_tokens : {q z : ℕ} (v : List ℕ) → w ≡ v → Lexes y m closing z q → (us : List Tok) (r : ℕ) → Tokens x us q r → (ts : List Tok) × Tokens x ts p r × (opening ∷ ts ≡ opening ∷ word v ∷ closing ∷ us)
  bare_tokens {q} {z} v e c us r k = (word w ∷ closing ∷ us, (s, m, l, (z, q, subst (λ u. Lexes u m closing z q) same c, k)), ap (λ u. opening ∷ word u ∷ closing ∷ us) e)

  pub start_read : {q d z : ℕ} (t : Tree) → w ≡ name head.Start → RoomAt x t p → Lexes y m closing z q → HeadedRead x p q d t t node.Start
  start_read t is r c =
      record {
        form = start;
        holds = refl;
        reads = λ b at h us f k. let g = bare_tokens (name head.Start) is c us f k in (g.0, g.1, (h, g.2));
        added = added_none t r (omega (arith, word_on l, shut_on c));
      }

  pub end_read : {q d z : ℕ} (t : Tree) → w ≡ name head.End → RoomAt x t p → Lexes y m closing z q → HeadedRead x p q d t t node.End
  end_read t is r c =
      record {
        form = end;
        holds = refl;
        reads = λ b at h us f k. let g = bare_tokens (name head.End) is c us f k in (g.0, g.1, (h, g.2));
        added = added_none t r (omega (arith, word_on l, shut_on c));
      }

pub nil_read : {x : List ℕ} {p s q d i : ℕ} {t u : Tree} → RoomAt x t p → Lexes x p closing s q → Pushed t u node.Nil i → ListRead x p q d t u i
nil_read {t = t} {u = u} r l w =
    record { forms = nil; stand = pushed_nil t u _ w; reads = λ us f k. (closing ∷ us, (_, _, l, k), refl); added = added_push (added_none t r (shut_on l)) w }

pub some_read : {x y : List ℕ} {p q r d i j k : ℕ} {t u v z : Tree} → FormRead x p q d t u j → y ≡ x → ListRead y q r d u v k → Pushed v z (node.Cons j k) i → SomeRead x p r d t z i
some_read {x} {y} {p} {q} {r} {d} {i} {j} {k} {t} {u} {v} {z} a same b w =
    record {
      first = a.form;
      rest = b.forms;
      stand = pushed_cons v z a.form b.forms j k i w (stands_more u v a.form j b.added.grows a.stands) b.stand;
      reads = λ us f h.
          let g = b.reads us f (subst (λ c. Tokens c us r f) (sym same) h) in
          let o = a.reads g.0 f (subst (λ c. Tokens c g.0 q f) same g.1) in
          (o.0, o.1, (g.0, o.2, g.2));
      added =
          record {
            grows = grows_on t v z (grows_on t u v a.added.grows b.added.grows) (grows_pushed v z _ _ w);
            on = omega (arith, a.added.on, b.added.on);
            nodes = omega (arith, a.added.nodes, b.added.nodes, ap length w.nodes, length_push (nodes_of v) (node.Cons j k));
            bytes = omega (arith, b.added.bytes, ap length w.bytes);
            ranges = omega (arith, b.added.ranges, ap length w.ranges);
          };
    }

pub open_read : {x y : List ℕ} {p s m q d e i : ℕ} {t u v : Tree} {n : Node} → Lexes x p opening s m → y ≡ x → e ≡ d + 1 → HeadedRead y m q e t u n → d < deepest → Pushed u v n i → FormRead x p q d t v i
open_read {x} {y} {p} {s} {m} {q} {d} {e} {i} {t} {u} {v} {n} l same at b h w =
    let a = b.added in
    record {
      form = b.form;
      stands = pushed_stands u v b.form n i w b.holds;
      reads = λ us f k.
          let g = b.reads d at h us f (subst (λ c. Tokens c us q f) (sym same) k) in
          (opening ∷ g.0, (s, m, l, subst (λ c. Tokens c g.0 m f) same g.1), g.2);
      added = added_push (record { grows = a.grows; on = omega (arith, a.on, open_on l); nodes = omega (arith, a.nodes, open_on l); bytes = a.bytes; ranges = a.ranges }) w;
    }

pub quote_read : {x : List ℕ} {p s m d i : ℕ} {t u v : Tree} {n : Node} {q : List ℕ} → RoomAt x t p → Lexes x p (quote q) s m → Quoted t u q n → Pushed u v n i → FormRead x p m d t v i
quote_read {t = t} {u = u} {v = v} {n = n} {q = q} r l k w =
    record {
      form = quoted q;
      stands = pushed_stands u v (quoted q) n _ w (quoted_holds t u q n k);
      reads = λ us f h. (quote q ∷ us, (_, _, l, h), refl);
      added =
          added_push
          (record {
            grows = grows_quoted t u q n k;
            on = omega (arith, quote_long l);
            nodes = omega (arith, quote_long l, ap length k.nodes);
            bytes = omega (arith, quote_long l, ap length k.bytes, length-append (bytes_of t) q, r.bytes);
            ranges = omega (arith, quote_long l, ap length k.ranges, r.ranges);
          })
          w;
    }

pub list_some : {x : List ℕ} {p q d i : ℕ} {t u : Tree} → SomeRead x p q d t u i → ListRead x p q d t u i
list_some a = record { forms = cons a.first a.rest; stand = a.stand; reads = a.reads; added = a.added }
