-- The line that answers a record. Definitions only.
use Rattle.std.specs.Prelude.{ℕ, ◌+◌, List, ◌++◌, Result, Ok, Err}
use Rattle.profile_lines.specs.Text.{ascii}
use Rattle.profile_lines.specs.Fields.{profile_fields, profile_width}
use Rattle.profile.specs.declared.Profile.{Profile}
use Rattle.profile_check.specs.Check.{judged}
use Rattle.profile_test.specs.Records.{checked_of}

-- yes and the profile, or no
unfoldable pub answer_of : Result Profile Profile → List ℕ
answer_of (Ok q) = ascii "yes" ++ profile_fields q ++ ascii "\n"
answer_of (Err _) = ascii "no\n"

abbrev pub line_of : List ℕ → List ℕ
line_of b = answer_of (judged (checked_of b))

-- the longest: yes, the profile and a line feed
abbrev pub line_length : ℕ
line_length = 3 + profile_width + 1
