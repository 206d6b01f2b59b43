use Rattle.std.proofs.Common.{rules, ◌≡◌, sym, subst, string_bytes}
use Rattle.std.specs.Prelude.{IsUtf8}
use Rattle.std.proofs.lemmas.Str.{IsUtf8-had}
use Rattle.serde_json.specs.View.{view}
use Rattle.build_record.specs.Reading.{IsTextOfRecord}
use Rattle.build_record.proofs.ReadBackLemmas.{text_read}
use Rattle.build_record.proofs.RecordLemmas.{record_written}
use Rattle.build_record.proofs.encoding.encode.Goals as goal

pub returns-clause-text : goal.returns-clause-text
returns-clause-text c =
    let written = record_written c.args.state.now (view c.in_ok-value.value) (string_bytes c.in_ok-text.text) c.in_ok-value.ensures.value c.in_ok-text.ensures.text in
    search rules

pub returns-clause-read_back : goal.returns-clause-read_back
returns-clause-read_back c = λ sources.
    let same : c.from_vec.result ≡ string_bytes c.in_ok-text.text = search rules in
    let text : IsUtf8 (string_bytes c.in_ok-text.text) = IsUtf8-had _ c.in_ok-text.text.ok in
    subst (λ bytes. IsTextOfRecord bytes c.args.state.now) (sym same)
    (text_read c.args.state.now (view c.in_ok-value.value) (string_bytes c.in_ok-text.text) c.in_ok-value.ensures.value text c.in_ok-text.ensures.reads_back c.in_ok-value.ensures.fit sources)
