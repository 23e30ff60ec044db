use Rattle.std.proofs.Common.{sym, ◌∙◌}
use Rattle.tree.proofs.Falling.{pushed_falls}
use Rattle.tree.proofs.store.Tree.push.Goals as goal

pub invariant_of-self-clause-falling : goal.invariant_of-self-clause-falling
invariant_of-self-clause-falling c =
    pushed_falls _ _ _ _ c.args.self.now.falling c.push_reserved.ensures.items (c.len-i.ensures ∙ c.args.self.now.nodes.ok.0) (sym c.if-not-before.ensures)
