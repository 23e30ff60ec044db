use Rattle.texts.proofs.render.+form_list.Given as goal

abbrev pub decreases-form : goal.decreases-form
decreases-form g l = l.i

abbrev pub decreases-list : goal.decreases-list
decreases-list g l = l.i
