-- Programs whose evaluation computes.
use Rattle.std.proofs.Common.{◌≡◌, ℕ, List, [], ◌∷◌, refl, codes}
use Rattle.js_value.specs.Text.{piece, utf8, encoded, character_length}
use Rattle.es_ops.specs.Host.{cut}
use Rattle.es_model.specs.Tree as t
use Rattle.es_model.specs.Tree.{Tree}
use Rattle.es_model.specs.declared.names.Identifier.{Identifier}
use Rattle.es_model.specs.declared.kinds.Semi.TheVariants.{Written}
use Rattle.es_eval.specs.ThinEvaluation.{meaning, find, evaluator}
use Rattle.es_eval.specs.ThinBoot.{top_level, run, told}

-- import { print } from "host"; print("hi");
identifier : ℕ → List ℕ → Identifier
identifier at name = record { at = at; name = name }

hi : Tree (t.list t.item)
hi = t.more (t.Import (codes "host") (record { taken = identifier 9 (codes "print"); given = identifier 9 (codes "print") } ∷ []) Written) (t.more (t.Plain (t.Value (t.Call (t.Name (identifier 30 (codes "print"))) (t.more (t.String (codes "hi")) t.none)) Written)) t.none)

hi_told : told (run 100000000 hi) ≡ record { status = 0; bytes = codes "hi\n" }
unfolding identifier hi run top_level meaning find evaluator cut piece utf8 encoded character_length
hi_told = refl

empty_told : told (run 100000000 t.none) ≡ record { status = 0; bytes = [] }
unfolding run top_level meaning find evaluator cut piece utf8 encoded character_length
empty_told = refl

-- a call without a unit stops the run
hi_stopped : told (run 0 hi) ≡ record { status = 5; bytes = codes "stopped: budget\n" }
unfolding identifier hi run top_level meaning find evaluator cut piece utf8 encoded character_length
hi_stopped = refl

-- import { print } from "host"; f(print("x")); the callee comes before the arguments
callee_first : Tree (t.list t.item)
callee_first = t.more (t.Import (codes "host") (record { taken = identifier 9 (codes "print"); given = identifier 9 (codes "print") } ∷ []) Written) (t.more (t.Plain (t.Value (t.Call (t.Name (identifier 30 (codes "f"))) (t.more (t.Call (t.Name (identifier 32 (codes "print"))) (t.more (t.String (codes "x")) t.none)) t.none)) Written)) t.none)

nothing_written : told (run 100 callee_first) ≡ record { status = 3; bytes = [] }
unfolding identifier callee_first run top_level meaning find evaluator cut piece utf8 encoded character_length
nothing_written = refl
