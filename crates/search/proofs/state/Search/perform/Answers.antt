use Rattle.std.proofs.Common.{refl, ap}
use Rattle.refusal.specs.declared.Refusal.TheVariants.{SearchEmpty, SearchClosed}
use Rattle.history.specs.Calls as history
use Rattle.search.specs.Telling.{state_is}
use Rattle.search.proofs.Performing.{refused_in}
use Rattle.search.proofs.state.Search.perform.Goals as goal

pub returns-in_default-Load : goal.returns-in_default-Load
returns-in_default-Load g c = rw c.in_default-Load.is-1 (c.take_text.ensures c.args.blocks.now)

pub returns-in-Open-Rewind : goal.returns-in-Open-Rewind
returns-in-Open-Rewind g c = rw c.in-Open-Rewind.is-1 (c.back.ensures c.args.blocks.now)

pub returns-in-Open-Feed : goal.returns-in-Open-Feed
returns-in-Open-Feed g c = rw c.in-Open-Feed.is-1 c.take_piece.ensures

pub returns-in-Open-Close : goal.returns-in-Open-Close
returns-in-Open-Close g c = rw c.in-Open-Close.is-1 c.end.ensures

pub returns-in_default-Draw : goal.returns-in_default-Draw
returns-in_default-Draw g c = rw c.in_default-Draw.is-1 (c.next_end.ensures c.args.blocks.now)

pub returns-in_default-Taken : goal.returns-in_default-Taken
returns-in_default-Taken g c = rw c.in_default-Taken.is-1 (c.taken_bytes.ensures c.args.blocks.now)

pub returns-in_default-Weight : goal.returns-in_default-Weight
returns-in_default-Weight g c = rw c.in_default-Weight.is-1 (c.loaded_weight.ensures c.args.blocks.now)

pub returns-in_default-Waiting : goal.returns-in_default-Waiting
returns-in_default-Waiting g c = rw c.in_default-Waiting.is-1 (c.last_block.ensures c.args.blocks.now)

pub returns-in-Empty-Rewind : goal.returns-in-Empty-Rewind
returns-in-Empty-Rewind g c =
    rw c.in-Empty-Rewind.is-1
    (refused_in g.B.Block.row g.B.Block.places g.met.B.Block.some history.Empty history.rewind SearchEmpty (λ F bytes ws. refl) c.args.self.now (ap state_is c.in-Empty-Rewind.is-0) c.args.blocks.now)

pub returns-in-Empty-Feed : goal.returns-in-Empty-Feed
returns-in-Empty-Feed g c =
    rw c.in-Empty-Feed.is-1
    (refused_in g.B.Block.row g.B.Block.places g.met.B.Block.some history.Empty (history.feed _ _) SearchEmpty (λ F bytes ws. refl) c.args.self.now (ap state_is c.in-Empty-Feed.is-0) c.args.blocks.now)

pub returns-in-Empty-Close : goal.returns-in-Empty-Close
returns-in-Empty-Close g c =
    rw c.in-Empty-Close.is-1
    (refused_in g.B.Block.row g.B.Block.places g.met.B.Block.some history.Empty (history.close _) SearchEmpty (λ F bytes ws. refl) c.args.self.now (ap state_is c.in-Empty-Close.is-0) c.args.blocks.now)

pub returns-in-Closed-Feed : goal.returns-in-Closed-Feed
returns-in-Closed-Feed g c =
    rw c.in-Closed-Feed.is-1
    (refused_in g.B.Block.row g.B.Block.places g.met.B.Block.some history.Closed (history.feed _ _) SearchClosed (λ F bytes ws. refl) c.args.self.now (ap state_is c.in-Closed-Feed.is-0) c.args.blocks.now)

pub returns-in-Closed-Close : goal.returns-in-Closed-Close
returns-in-Closed-Close g c =
    rw c.in-Closed-Close.is-1
    (refused_in g.B.Block.row g.B.Block.places g.met.B.Block.some history.Closed (history.close _) SearchClosed (λ F bytes ws. refl) c.args.self.now (ap state_is c.in-Closed-Close.is-0) c.args.blocks.now)
