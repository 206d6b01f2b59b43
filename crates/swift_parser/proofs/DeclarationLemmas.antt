-- Access that may be left out, and trees and stops that are said of an equal list.
use Rattle.std.proofs.Common.{◌≡◌, Bool, List, sym, subst, Option, Some, None}
use Rattle.grammar.specs.Forms.{Form}
use Rattle.grammar.specs.Faults.{Parsed, Stops}
use Rattle.swift_ast.specs.declared.declarations.Access.{Access}
use Rattle.swift_ast.specs.Leaves.{Leaf}
use Rattle.swift_ast.specs.Tests.{on, is_access}
use Rattle.swift_ast.specs.Declarations.{access_form}
use Rattle.swift_ast.proofs.DeclarationLaws.{access_rule}
use Rattle.swift_ast.proofs.DeclarationExits.{access_out, access_in}
use Rattle.token_cursor.specs.Reading.{TakesIf}

pub access_read : (a : Option Access) (old mid : List Leaf) → TakesIf (on is_access) access_form a old mid → Parsed access_rule a (access_rule.continues a) old mid
access_read (Some a) old mid e = access_in e
access_read None old mid e = subst (λ ts. Parsed access_rule None (access_rule.continues None) old ts) (sym e.0) (access_out old e.1)

pub taken_from : {X : Type 0} (f : Form Leaf X) (x : X) (a b new : List Leaf) → Parsed f x (f.continues x) a new → b ≡ a → Parsed f x (f.continues x) b new
taken_from f x a b new t e = subst (λ ts. Parsed f x (f.continues x) ts new) (sym e) t

pub stops_at : (test : Leaf → Bool) (a b : List Leaf) → Stops test a → a ≡ b → Stops test b
stops_at test a b s e = subst (λ ts. Stops test ts) e s
