use Rattle.std.proofs.Common.{◌≡◌, arith}
use Rattle.std.proofs.lemmas.Grind.{common_steps}
use Rattle.std.proofs.lemmas.Option.{gets}
use Rattle.std.specs.List.{slice_get}
use Rattle.tree.specs.Stands.{nodes_of}
use Rattle.tree.proofs.Falling.{read_at}
use Rattle.tree.proofs.store.Tree.node.Goals as goal

pub returns-clause-parts : goal.returns-clause-parts
returns-clause-parts c =
    let value : c.copied.result ≡ slice_get (nodes_of c.args.self.now) c.args.i = grind (arith, common_steps, gets) in
    read_at _ _ _ c.args.self.now.falling value
