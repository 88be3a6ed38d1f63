use Rattle.std.proofs.Common.{◌≡◌, ◌∙◌, Some, ap, rules}
use Rattle.daybook.proofs.Cutting.{any_word}
use Rattle.daybook.proofs.reading.request_if_any.Goals as goal
use Rattle.daybook.specs.Requests.{result_map}

pub returns-in_default : goal.returns-in_default
returns-in_default c =
    let mapped : c.map.result ≡ result_map Some c.request_of.result = search rules in
    mapped ∙ ap (result_map Some) c.request_of.ensures ∙ any_word _ c.args.words _ c.in_default.is
