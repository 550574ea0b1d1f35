-- The line that answers a record: how many profiles were added, and each of them. Definitions only.
use Rattle.std.specs.Prelude.{ℕ, ◌-◌, cond, List, [], ◌++◌, Result, Ok, Err, eqb, ltb, get_or, take, drop}
use Rattle.std.specs.List.{flat_map}
use Rattle.profile_lines.specs.Text.{ascii}
use Rattle.profile_lines.specs.Fields.{profile_fields}
use Rattle.decimals.specs.Decimal.{decimal}
use Rattle.profile.specs.declared.Profile.{Profile}
use Rattle.profile_check.specs.Check.{judged}
use Rattle.candidates.specs.declared.Candidates.{Candidates}
use Rattle.families_test.specs.Records.{list_of, after_family, single_step}

-- how many profiles were added to the n counted before, and each: those of the slots from n on that count
unfoldable pub added_line : Candidates → ℕ → List ℕ
added_line c n =
    decimal (c.current_index - n)
    ++ flat_map profile_fields (drop n (take c.current_index c.valid_profiles))
    ++ ascii "\n"

unfoldable pub single_line : Result Profile Profile → List ℕ
single_line (Ok q) = ascii "1" ++ profile_fields q ++ ascii "\n"
single_line (Err _) = ascii "0\n"

-- family 7 is the single-step path; a list that counts more than five profiles has no line
unfoldable pub line_of : List ℕ → List ℕ
line_of b =
    let n = get_or b 107 0 in
    cond (eqb (get_or b 104 0) 7) (single_line (judged (single_step b)))
    (cond (ltb 5 n) [] (added_line (after_family b (list_of b n)) n))
