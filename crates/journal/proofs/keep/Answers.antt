use Rattle.daybook.specs.Days.{day_text, entry_view}
use Rattle.daybook.specs.Standing.{standing_text}
use Rattle.journal.proofs.keep.Goals as goal
use Rattle.std.proofs.Common.{None, ap, ap₂, drop, length, map, ◌++◌, ◌∙◌}
use Rattle.std.proofs.lemmas.List.{take_at}
use Rattle.table.specs.Tables.{contents_of}

pub returns : goal.returns
returns g c =
    let names = (contents_of c.args.table.now).names in
    let made = c.run-sheet.new.entries in
    let day = c.in_ok-day.day in
    -- the run leaves as many entries as there were
    let all = take_at made (drop (length made) day.entries.items) day.entries.len (c.run-sheet.ensures.law.long ∙ c.deref_mut.ensures.len) in
    let text = c.in_ok-text.ensures ∙ ap₂ (day_text (g.F.Family.size c.args.family.now) (g.F.Family.value c.args.family.now) c.args.table.now.bytes.now c.run-sheet.result.statements None) c.in_ok-day.ensures.lines all in
    let standing = c.as_str.ensures.value ∙ c.in_ok-standing.ensures ∙ ap (standing_text names) c.findings.ensures.value in
    record {
      asked = c.deref_mut.result.now;
      unmade = ap (map entry_view) c.deref_mut.ensures.value ∙ c.in_ok-day.ensures.entries;
      made = made;
      sheet = c.run-sheet.result;
      law = c.run-sheet.ensures.law;
      told = c.in_ok-push_str.ensures.bytes ∙ ap₂ (λ x y. x ++ y) text standing;
    }
