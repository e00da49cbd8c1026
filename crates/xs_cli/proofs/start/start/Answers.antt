use Rattle.std.proofs.Common.{◌≡◌, ◌∙◌, ℕ, List, ap, subst}
use Rattle.xs_cli.specs.Answer.{Word}
use Rattle.xs_cli.specs.Ends.{IsAnswered, Outside, words_of}
use Rattle.xs_cli.proofs.start.start.Goals as goal

answered_at : (xs ys : List Word) (before after : Outside) (status : ℕ) → xs ≡ ys → IsAnswered xs before after status → IsAnswered ys before after status
answered_at xs ys before after status same answered = subst (λ words. IsAnswered words before after status) same answered

pub returns-in-Ok-clause-answered : goal.returns-in-Ok-clause-answered
returns-in-Ok-clause-answered g c = λ six seven. answered_at _ _ _ _ _ (ap words_of c.deref.ensures.value ∙ c.in-Ok.ensures) (c.xs.ensures.answered six seven)
