use Rattle.std.proofs.Common.{◌≡◌, ◌∙◌, ◌++◌, ℕ, List, [], take, Option, Some, None, IfSome, ap}
use Rattle.std.specs.Option.{option_map}
use Rattle.xs_base.proofs.disk.front.Goals as goal

front_of : (told : Option (List ℕ)) (n : ℕ) (old new : List ℕ) → old ≡ [] → IfSome (option_map (λ xs. take n xs) told) (λ xs. new ≡ old ++ xs) → IfSome told (λ all. new ≡ take n all)
front_of None n old new none h = tt
front_of (Some all) n old new none h = h ∙ ap (λ xs. xs ++ take n all) none

pub returns : goal.returns
returns g c = rw c.from_vec.ensures (front_of (g.R.Read.remaining c.args.from) 268435457 _ _ c.new-bytes.ensures.items (rw (c.take.ensures.limit, c.take.ensures.inner) at c.in_ok-read_to_end.ensures.bytes))
