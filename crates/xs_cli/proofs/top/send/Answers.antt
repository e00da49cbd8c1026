use Rattle.std.proofs.lemmas.Result.{err_from_is_err_and}
use Rattle.std.proofs.Common.{append_assoc}
use Rattle.xs_base.proofs.Writes.{Receives-then, SentInPart-longer, SentInPart-after}
use Rattle.std.proofs.KnownBytes.{Appends-trans}
use Rattle.xs_cli.proofs.top.send.Goals as goal

pub returns-in_err-write-clause-bytes : goal.returns-in_err-write-clause-bytes
returns-in_err-write-clause-bytes g c = let p = err_from_is_err_and c.from_residual.result c.from_residual.ensures.1 in rw (p.1, append_assoc) (SentInPart-longer _ _ _ _ c.in_err-write.ensures.bytes)

pub returns-in_err-write-2-clause-bytes : goal.returns-in_err-write-2-clause-bytes
returns-in_err-write-2-clause-bytes g c = let p = err_from_is_err_and c.from_residual-in_err-write-2.result c.from_residual-in_err-write-2.ensures.1 in rw p.1 (SentInPart-longer _ _ _ _ (SentInPart-after _ _ _ _ _ c.in_ok-write.ensures.bytes c.in_err-write-2.ensures.bytes))

pub returns-clause-bytes : goal.returns-clause-bytes
returns-clause-bytes g c = Receives-then _ _ _ _ _ _ (Appends-trans _ _ _ _ _ c.in_ok-write.ensures.bytes c.in_ok-write-2.ensures.bytes) c.write-3.ensures.bytes
