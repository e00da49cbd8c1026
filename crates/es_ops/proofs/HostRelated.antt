-- The functions of the host are the same but for the numbers of things.
use Rattle.std.proofs.Common.{ℕ, List, [], ◌∷◌, ◌++◌, map, refl, Option, Some, None}
use Rattle.js_value.specs.Text.{units, utf8}
use Rattle.js_value.specs.Value.{Value}
use Rattle.es_ops.specs.Act.{Act}
use Rattle.es_ops.specs.Host.{pieces, line_feed}
use Rattle.es_ops.specs.HostCalls.{with_host, write_all, print, next_line, longest_line, read_line, read}
use Rattle.es_ops.specs.Related.{Naming, BothValue, BothUndefined, BothNull, Related, BothHalt, BothAsk, BothDo, Then}
use Rattle.es_ops.proofs.ReadsRelated.{made_text_related, text_expected_related}
use Rattle.es_ops.proofs.Units.{units_are}

host_related : {R : Naming} (host : Option (List ℕ)) (k l : List ℕ → Act) → ((input : List ℕ) → Related R (k input) (l input)) → Related R (with_host host k) (with_host host l)
host_related None k l h = BothHalt
host_related (Some input) k l h = h input

write_all_related : {R : Naming} (bytes : List (List ℕ)) (k l : Act) → Related R k l → Related R (write_all bytes k) (write_all bytes l)
write_all_related [] k l h = h
write_all_related (b ∷ bs) k l h = BothDo refl (λ x y e. write_all_related bs k l h)

pub print_related : {R : Naming} (v w : Value) (k l : Value → Act) → BothValue R v w → Then R (BothValue R) k l → Related R (print v k) (print w l)
unfolding print
print_related v w k l p h = BothAsk tt (λ i j e. rw e (host_related j _ _ (λ input. text_expected_related v w _ _ p (λ t x. write_all_related (map utf8 (pieces (t ++ line_feed ∷ []))) _ _ (h _ _ BothUndefined)))))

read_line_related : {R : Naming} (input : List ℕ) (k l : Value → Act) → Then R (BothValue R) k l → Related R (read_line input k) (read_line input l)
read_line_related [] k l h = h _ _ BothNull
read_line_related (b ∷ bs) k l h = BothDo (refl, refl) (λ x y e. made_text_related (units (next_line longest_line (b ∷ bs)).0) k l (units_are (next_line longest_line (b ∷ bs)).0) h)

pub read_related : {R : Naming} (k l : Value → Act) → Then R (BothValue R) k l → Related R (read k) (read l)
unfolding read
read_related k l h = BothAsk tt (λ i j e. rw e (host_related j _ _ (λ input. read_line_related input k l h)))
