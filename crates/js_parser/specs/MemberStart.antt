-- A member up to its key: the place where it begins, whether it is static, and its kind, which is `Method` where no accessor's word stands.
use Rattle.std.specs.Prelude.{ℕ, Bool}
use Rattle.parser_forms.specs.declared.parts.KeyPart.{KeyPart}
use Rattle.es_model.specs.declared.kinds.MemberKind.{MemberKind}

pub record MemberStart : Type 0 where
  pub at : ℕ
  pub fixed : Bool
  pub kind : MemberKind
  pub key : KeyPart
