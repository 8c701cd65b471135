use Rattle.geo_app.proofs.Numerals.{number_read, number_none}
use Rattle.std.proofs.Common.{rules, sym, ◌∙◌, ◌≡◌, true, false}
use Rattle.std.specs.String.{string_bytes}
use Rattle.geo_app.specs.Tasks.{is_numeral}
use Rattle.geo_app.proofs.task.read_number.Goals as goal

pub returns-then-is_numeral : goal.returns-then-is_numeral
returns-then-is_numeral c =
    let w = string_bytes c.args.word.now in
    let numeral : is_numeral w ≡ true = search rules in
    c.ok.ensures.value ∙ number_read w c.parse.result numeral (rw c.as_str.ensures.value at c.parse.ensures.value.0)

pub returns-else-is_numeral : goal.returns-else-is_numeral
returns-else-is_numeral c =
    let none : is_numeral (string_bytes c.args.word.now) ≡ false = search rules in
    sym (number_none (string_bytes c.args.word.now) none)
