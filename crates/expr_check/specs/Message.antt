-- What can be wrong at a token. The text of each, its place and its cause stand in `Messages.antt`.
use Rattle.std.specs.Prelude.{ℕ, List}
use Rattle.type_rules.specs.declared.ty.Ty.{Ty}

-- Each with the names and the types that its text has, in order.
pub data Message : Type 0 where
  NotFound : List ℕ → Message
  TypeNotFound : List ℕ → Message
  NotAType : List ℕ → Message
  NotAValue : List ℕ → Message
  Ambiguous : List ℕ → Message
  HasErrors : List ℕ → Message
  Circular : List ℕ → Message
  Redeclared : List ℕ → Message
  NoMember : Ty → List ℕ → Message
  NoConversion : Ty → Ty → Message
  NoBinary : List ℕ → Ty → Ty → Message
  NoUnary : List ℕ → Ty → Message
  WrongArguments : List ℕ → Message
  NotCallable : Ty → Message
  NotAssignable : List ℕ → Message
  ReturnNeedsValue : Ty → Message
  MissingReturn : Ty → Message
  NotAStruct : List ℕ → Message
  TooLarge : List ℕ → Message
