use Rattle.std.proofs.Common.{◌≡◌, ◌∙◌, sym, subst, true}
use Rattle.std.specs.Prelude.{All, IsTrue}
use Rattle.std.proofs.lemmas.List.Elements.{All-push}
use Rattle.drv_outside.specs.Plain.{is_plain_name}
use Rattle.driver_main.proofs.disk.only_plain.Goals as goal

pub loop-name-preserved-in-Continue-1 : goal.loop-name-preserved-in-Continue-1
loop-name-preserved-in-Continue-1 c =
    let plain : is_plain_name c.in-Some.name ≡ true = subst (λ n. is_plain_name n ≡ true) c.as_str.ensures (sym c.is_plain_name.ensures ∙ c.if-is_plain_name.true) in
    subst (λ names. All (λ name. IsTrue (is_plain_name name)) names) (sym c.in_ok-push.ensures.items)
    (All-push (λ name. IsTrue (is_plain_name name)) c.loop-name.plain.items c.in-Some.name c.loop-name.invariant plain)
