-- The pairs with which a run from an image starts: the things below n, each under its new number.
use Rattle.std.proofs.Common.{◌≡◌, ℕ, zero, suc, ◌<◌, inl, inr, [], ◌∷◌, arith, sym, ap, ◌∙◌}
use Rattle.std.proofs.lemmas.Bool.{cases_eq}
use Rattle.es_ops.specs.Related.{IsOneToOne}
use Rattle.es_ops.specs.Renaming.{Pairs, named}

module _ (ρ : ℕ → ℕ) where
  abbrev pub graph : ℕ → Pairs
  graph zero = []
  graph (suc n) = (n, ρ n) ∷ graph n

  pub graph_names : (n a b : ℕ) → named (graph n) a b → (a < n) × (b ≡ ρ a)
  graph_names (suc n) a b (inl h) = (omega (arith, h.0), h.1 ∙ ap ρ (sym h.0))
  graph_names (suc n) a b (inr h) = let i = graph_names n a b h in (omega (arith, i.0), i.1)
  graph_names zero a b h = absurd h

  pub graph_has : (n a : ℕ) → a < n → named (graph n) a (ρ a)
  graph_has zero a l = absurd (omega arith)
  graph_has (suc n) a l = elim (cases_eq a n) [
    | inl e ↦ inl (e, ap ρ e)
    | inr d ↦ inr (graph_has n a (omega arith))
  ]

  pub graph_one : ((a b : ℕ) → ρ a ≡ ρ b → a ≡ b) → (n : ℕ) → IsOneToOne (named (graph n))
  graph_one injective n = record {
    forth = λ a b c h g. (graph_names n a b h).1 ∙ sym (graph_names n a c g).1;
    back = λ a b c h g. injective a b (sym (graph_names n a c h).1 ∙ (graph_names n b c g).1);
  }
