-- References by values, `super`, and the functions of the host.
use Rattle.std.proofs.Common.{◌≡◌, ℕ, List, [], ◌∷◌, map, refl, Option, Some, None, pos, codes}
use Rattle.js_value.specs.Text.{piece, utf8, units, encoded, character_length, sequence_length}
use Rattle.js_value.specs.Value.{Value, Undefined, Null, Number, String, Object, Named}
use Rattle.js_value.specs.Store.{Thing, AnObject}
use Rattle.es_ops.specs.State.{Wrote, Took, some_units}
use Rattle.es_ops.specs.Ledger.{NoHost}
use Rattle.es_ops.specs.Messages.{Message, NoProperties, NotWritable, text_of_message}
use Rattle.es_ops.specs.Errors.{error_record}
use Rattle.es_ops.specs.Act.{Act, Give, run, Ran}
use Rattle.es_ops.specs.Host.{cut}
use Rattle.es_ops.specs.References.{get_by_value, put_by_value, delete_by_value, key_by_value, ordinary_get, super_get, super_set}
use Rattle.es_ops.specs.HostCalls.{print, read}
use Rattle.es_ops.proofs.Samples.{plain, getter, setter, ordinary, function, world_of, state_in, calls, runs, came, Came, Gave, Threw, Stopped, thing_after, world_after, used_after, computing}

-- 13 is a key that is converted to "1"; 14 has a getter that gives its receiver; 15 inherits from 14; 16 is a function; 17 converts by a throw
things : List Thing
things = AnObject (ordinary None ((codes "toString", plain (Object 18)) ∷ [])) ∷ AnObject (ordinary None ((codes "a", getter (Object 16)) ∷ (codes "b", setter (Object 16)) ∷ (codes "1", plain Null) ∷ [])) ∷ AnObject (ordinary (Some 14) []) ∷ AnObject (function 1) ∷ AnObject (ordinary None ((codes "toString", plain (Object 19)) ∷ [])) ∷ AnObject (function 4) ∷ AnObject (function 2) ∷ []

text : List ℕ → Value
text t = String t

results : Act → Came
results p = came (runs p things)

error_of : Message → Option Thing
error_of m = Some (AnObject (error_record 6 (text_of_message m)))

-- the base is tested before the key is converted, and the key is converted before the read
bases : map (λ p. thing_after (runs p things) 20) (get_by_value Null (Object 17) Give ∷ put_by_value Undefined (Object 17) Null (Give Null) ∷ delete_by_value Null (Object 17) (Give Null) ∷ key_by_value Undefined (Object 17) Give ∷ [])
    ≡ map error_of (NoProperties ∷ NoProperties ∷ NoProperties ∷ NoProperties ∷ [])
unfolding computing things error_of
bases = refl

keys : map results (key_by_value (Object 14) (Object 13) Give ∷ key_by_value (Object 14) (Number (pos 1)) Give ∷ get_by_value (text (codes "xy")) (Object 13) Give ∷ get_by_value (Object 15) (text (codes "a")) Give ∷ get_by_value (Object 14) (Object 17) Give ∷ [])
    ≡ Gave (text (codes "1")) ∷ Gave (Number (pos 1)) ∷ Gave (text (codes "y")) ∷ Gave (Object 15) ∷ Threw (Number (pos 9)) ∷ []
unfolding computing things text results
keys = refl

-- a method's `super.a`: it is read from the home object's prototype, with `this` as the receiver
supers : map results (super_get (Some 15) (Number (pos 5)) (text (codes "a")) Give ∷ ordinary_get 15 (Named (codes "a")) Null Give ∷ super_set (Some 15) (Object 13) (text (codes "b")) Null (Give Null) ∷ [])
    ≡ Gave (Number (pos 5)) ∷ Gave Null ∷ Gave Null ∷ []
unfolding computing things text results
supers = refl

-- the home object's prototype is tested before the key
super_bases : map (λ p. thing_after (runs p things) 20) (super_get None Null (Object 17) Give ∷ super_get (Some 14) Null (Object 17) Give ∷ super_set (Some 14) Null (Object 17) Null (Give Null) ∷ super_set (Some 15) (Object 13) (text (codes "a")) Null (Give Null) ∷ [])
    ≡ map error_of (NoProperties ∷ NoProperties ∷ NoProperties ∷ NotWritable ∷ [])
unfolding computing things text error_of
super_bases = refl

-- ---- the host

hosted : List ℕ → Act → Ran
hosted input p = run calls p (state_in (record (world_of things) { input = Some input }))

printed : map (λ v. (world_after (hosted [] (print v Give))).trace) (text (codes "hi") ∷ Number (pos 7) ∷ Undefined ∷ [])
    ≡ (Wrote (codes "hi\n") ∷ []) ∷ (Wrote (codes "7\n") ∷ []) ∷ (Wrote (codes "undefined\n") ∷ []) ∷ []
unfolding computing things text hosted cut piece utf8 encoded character_length
printed = refl

refused_prints : came (hosted [] (print (Object 13) Give)) ∷ came (runs (print (text []) Give) things) ∷ came (runs (read Give) things) ∷ [] ≡ Threw (Object 20) ∷ Stopped NoHost ∷ Stopped NoHost ∷ []
unfolding computing things text hosted
refused_prints = refl

-- a line ends at its line feed, which is taken and isn't part of it; at the end of the input there is none
reads : map (λ input. came (hosted input (read Give))) (codes "ab\ncd" ∷ codes "\n" ∷ codes "cd" ∷ [] ∷ []) ≡ Gave (text (codes "ab")) ∷ Gave (text []) ∷ Gave (text (codes "cd")) ∷ Gave Null ∷ []
unfolding computing things text hosted units sequence_length
reads = refl

read_leaves : map (λ input. (world_after (hosted input (read Give))).input) (codes "ab\ncd" ∷ codes "cd" ∷ [] ∷ []) ≡ Some (codes "cd") ∷ Some [] ∷ Some [] ∷ []
unfolding computing things text hosted units sequence_length
read_leaves = refl

read_traces : (world_after (hosted (codes "ab\ncd") (read Give))).trace ≡ Took (codes "ab") ∷ []
unfolding computing things text hosted units sequence_length
read_traces = refl

read_costs : used_after (hosted (codes "ab\ncd") (read Give)) ≡ some_units 2
unfolding computing things text hosted units sequence_length
read_costs = refl
