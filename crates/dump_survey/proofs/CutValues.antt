-- Examples of the prefix that is reported with a copy; the checker computes and proves them.
use Rattle.dump_survey.proofs.Prelude.{◌≡◌, [], ◌∷◌, Some, None, refl, codes, DumpRecord, Include, Exclude, line, record_at, cutting_prefix}
use Rattle.dump_survey.specs.Lines.{cut_words, shown_byte, shown_control}
use Rattle.dump_history.specs.declared.findings.Finding.TheVariants as findings
use Rattle.dump_rules.specs.PlainSettings.{plain_settings}

-- a directory `b` that is a copy of `t`
abbrev copy : DumpRecord
copy = record_at 71 (line (codes "Node-path") (codes "b")
    ∷ line (codes "Node-kind") (codes "dir")
    ∷ line (codes "Node-action") (codes "add")
    ∷ line (codes "Node-copyfrom-rev") (codes "0")
    ∷ line (codes "Node-copyfrom-path") (codes "t") ∷ [])

-- the first prefix in the order of the call is reported, even if a later prefix names a path that sorts before it
first_of_two : cutting_prefix (plain_settings Exclude (codes "t/g" ∷ codes "t/f" ∷ [])) copy findings.CopyLoses
    ≡ Some (codes "t/g")
first_of_two = refl

-- a prefix of the call that doesn't cut is skipped
behind_another : cutting_prefix (plain_settings Exclude (codes "o" ∷ codes "tt/f" ∷ codes "t/f" ∷ [])) copy findings.CopyLoses
    ≡ Some (codes "t/f")
behind_another = refl

-- a prefix doesn't cut if the same path below the copy is excluded too
omitted_on_both_sides : cutting_prefix (plain_settings Exclude (codes "t/f" ∷ codes "b/f" ∷ codes "t/g" ∷ [])) copy
    findings.CopyLoses ≡ Some (codes "t/g")
omitted_on_both_sides = refl

-- each of the two findings has its own prefix
of_the_copy : cutting_prefix (plain_settings Exclude (codes "t/f" ∷ codes "b/g" ∷ [])) copy findings.CopyLetsIn
    ≡ Some (codes "b/g")
of_the_copy = refl

of_no_side : cutting_prefix (plain_settings Exclude (codes "o" ∷ [])) copy findings.CopyLetsIn ≡ None
of_no_side = refl

-- the prefix is reported as the caller gave it
with_its_slashes : cutting_prefix (plain_settings Exclude (codes "/t/f//" ∷ [])) copy findings.CopyLoses
    ≡ Some (codes "/t/f//")
with_its_slashes = refl

-- under include no prefix cuts, and other findings have no prefix

included : cutting_prefix (plain_settings Include (codes "t/f" ∷ [])) copy findings.CopyLoses ≡ None
included = refl

another_finding : cutting_prefix (plain_settings Exclude (codes "t/f" ∷ [])) copy findings.TextReadDifferently ≡ None
another_finding = refl

-- the line shows the prefix byte by byte, if there is one

shown : cut_words (Some (116 ∷ 47 ∷ 27 ∷ 102 ∷ [])) ≡ codes ": prefix t/\\x1bf"
unfolding cut_words shown_byte shown_control
shown = refl

nothing_to_show : cut_words None ≡ []
unfolding cut_words
nothing_to_show = refl
