use Rattle.std.proofs.Common.{◌≡◌, ℕ, ◌≤◌, sym, ◌∙◌, subst, arith}
use Rattle.limits.specs.Limits.{heaviest}
use Rattle.form.specs.Form.{Form}
use Rattle.program.specs.Compile.{feeds_at}
use Rattle.program.specs.Sizes.{brackets}
use Rattle.theory.specs.Written.{written}
use Rattle.program.specs.Numbered.{leaves}
use Rattle.tree.specs.Stands.{Stands}
use Rattle.tree.specs.declared.store.Tree.{Tree}
use Rattle.machine.proofs.Deep.{read_deep, read_few}
use Rattle.machine.proofs.Loading.{compiled_classes, compiled_stars, compiled_rows, compiled_fits}
use Rattle.machine.proofs.loaded.Matcher.load.Goals as goal

-- the form that was read now stands in the matcher's tree
moved : (F : Form) (old new : Tree) (root : ℕ) → Stands old F root → new ≡ old → Stands new F root
moved F old new root stands e = subst (λ (t : Tree). Stands t F root) (sym e) stands

pub invariant_of-self-2 : goal.invariant_of-self-2
invariant_of-self-2 c =
    let k = c.in_ok-taken.ensures.settles in
    let F = k.0 in
    let x = c.compile-self.new.self in
    let n = c.compile-self.result in
    let C = c.compile-self.ensures F (moved F _ _ _ k.2 c.swap.ensures.x_after) k.4 in
    let few : leaves (written F) ≤ heaviest = let a = k.4 in omega (arith, read_few c.args.text.now F k.1) in
    let deep : brackets F ≤ feeds_at = read_deep c.args.text.now F k.1 in
    let rows = compiled_rows F x n C in
    let weighs = k.3 in
    record {
      light = omega (arith, k.4);
      classes = compiled_classes F x n C;
      stars = compiled_stars F x n C;
      rows = omega arith;
      fits = compiled_fits F x n C deep few;
      few = let n = C.carries in omega arith;
      long = c.args.self.now.long;
    }

pub returns : goal.returns
returns c =
    let k = c.in_ok-taken.ensures.settles in
    let F = k.0 in
    let here = moved F _ _ _ k.2 c.swap.ensures.x_after in
    let C = c.compile-self.ensures F here k.4 in
    let deep : brackets F ≤ feeds_at = read_deep c.args.text.now F k.1 in
    let M = c.rewind.ensures.matched F record { compiled = C; nested = deep } in
    let K = c.rewind.ensures.keeps in (
      F,
      (k.1, k.4),
      record {
        runs = M.runs;
        stands = subst (λ (i : ℕ). Stands c.rewind.new.self.tree F i) (sym K.root) (subst (λ (t : Tree). Stands t F c.in_ok-taken.taken.root) (sym K.tree) here);
        weighs = K.weight ∙ k.3;
      },
      M,
    )
