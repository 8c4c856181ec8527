-- The example dump has no fault, and what the filter writes of it.
use Rattle.dump_history.proofs.Prelude.{◌≡◌, ◌+◌, ◌<◌, ◌^◌, true, ◌&&◌, ◌||◌, if◌then◌else◌, not, ◌++◌, length, None, refl, sym, ap, ◌∙◌, subst, inl, inr, arith, lit<, append-nil, append_assoc, Contains, last_or, NoFault, copy_revision_name, property_length_name, md5_name, sha1_name, has_header, with_header_value, Property, property_block_text, DumpRecord, image, is_revision_record, is_node, is_kept_node, has_lost_source, Settings, HasPropertyList, LengthsFit, group_of, is_padded, revision_number, present_revision, kept_revisions, is_whole_file, stays_copy, ends_in_group, IsOutOfOrder, HasBadCopyRevision, HoldsOfRecord, AreFaultFree, IsWrittenBlock, IsWrittenText, IsCleanText, property_list_once, AtEach, first_true, absurd_bool}
use Rattle.std.proofs.Common.{ℕ, false, List, [], ◌∷◌, Some, codes}
use Rattle.std.specs.Fmt.{digits}
use Rattle.dump_text.specs.declared.fault.FaultKind.TheVariants as faults
use Rattle.dump_history.proofs.values.WorkedDump.{version, zero, one, trunk, two, other, three, copy, records, dump, settings, none_of, whole}

-- none of the records has a fault

-- what is true of each record at its place is true of the record at an index
pub at_place : (P : List DumpRecord → DumpRecord → List DumpRecord → Type 0) (done rest before after : List DumpRecord)
    (r : DumpRecord) → rest ≡ before ++ r ∷ after → AtEach P done rest → P (done ++ before) r after
at_place P done [] [] after r at each = absurd (let bad : [] ≡ r ∷ after = at in cc)
at_place P done [] (y ∷ before) after r at each = absurd (let bad : [] ≡ y ∷ (before ++ r ∷ after) = at in cc)
at_place P done (x ∷ rest) [] after r at each =
    let same : x ≡ r = (let both : x ∷ rest ≡ r ∷ after = at in cc) in
    let later : rest ≡ after = (let both : x ∷ rest ≡ r ∷ after = at in cc) in
    subst (λ (d : List DumpRecord). P d r after) (sym (append-nil done))
    (subst (λ (y : DumpRecord). P done y after) same (subst (λ (l : List DumpRecord). P done x l) later each.0))
at_place P done (x ∷ rest) (y ∷ before) after r at each =
    let same : x ≡ y = (let both : x ∷ rest ≡ y ∷ (before ++ r ∷ after) = at in cc) in
    let later : rest ≡ before ++ r ∷ after = (let both : x ∷ rest ≡ y ∷ (before ++ r ∷ after) = at in cc) in
    subst (λ (d : List DumpRecord). P d r after)
    (append_assoc done (x ∷ []) before ∙ ap (λ z. done ++ z ∷ before) same)
    (at_place P (done ++ x ∷ []) rest before after r later each.1)

module _ (options : Settings) (before : List DumpRecord) (r : DumpRecord) (ordered : ¬ IsOutOfOrder before r)
    (list : HasPropertyList r [])
    (no_md5 : has_header md5_name r.headers ≡ false) (no_sha1 : has_header sha1_name r.headers ≡ false)
    (no_lost : (is_kept_node options r && has_lost_source options r && not (is_whole_file r)) ≡ false)
    (number : ¬ HasBadCopyRevision options before r) where
  no_property : (ps : List Property) → HasPropertyList r ps → (p : Property) → Contains ps p → ⊥
  no_property ps found p within =
      let (place, low, same) = subst (λ (l : List Property). Contains l p) (property_list_once r ps [] found list)
      within in absurd (omega (arith, low))

  pub free_of : NoFault (HoldsOfRecord options before r)
  free_of faults.Order holds = ordered holds
  free_of faults.Props (e, none) = none ([], list)
  free_of faults.Md5 (e, w, (has, differs)) = absurd_bool (has_header md5_name r.headers) has no_md5
  free_of faults.Sha1 (e, w, (has, differs)) = absurd_bool (has_header sha1_name r.headers) has no_sha1
  free_of faults.CopySource e =
      absurd_bool (is_kept_node options r && has_lost_source options r && not (is_whole_file r)) e no_lost
  free_of faults.CopyRevision holds = number holds
  free_of faults.MergeInfo (value, (e, ps, found, p, within, merge, same), bad) = no_property ps found p within
  free_of faults.MergeSource (value, (e, ps, found, p, within, merge, same), bad) = no_property ps found p within
  free_of faults.MergeRange (value, (e, ps, found, p, within, merge, same), bad) = no_property ps found p within
  free_of _ holds = holds

-- a node that directly follows a revision is in order
pub follows : (before : List DumpRecord) (r : DumpRecord)
    → (is_node r && not (ends_in_group (last_or None before))) ≡ false → is_revision_record r ≡ false
    → ¬ IsOutOfOrder before r
follows before r fine no_rev (inl e) =
    absurd_bool (is_node r && not (ends_in_group (last_or None before))) e fine
follows before r fine no_rev (inr (rev, number, also, le)) = absurd_bool (is_revision_record r) rev no_rev

-- a revision whose number is above the present one is in order
pub rises : (before : List DumpRecord) (r : DumpRecord) (present : ℕ) → is_node r ≡ false
    → present_revision before ≡ Some present → present < revision_number r → ¬ IsOutOfOrder before r
rises before r present no_node is above (inl e) =
    absurd_bool (is_node r) (first_true (is_node r) (not (ends_in_group (last_or None before))) e) no_node
rises before r present no_node is above (inr (rev, number, also, le)) =
    let same : present ≡ number = (let both : Some present ≡ Some number = sym is ∙ also in cc) in
    omega (arith, above, le, same)

-- the first revision is in order
pub begins : (before : List DumpRecord) (r : DumpRecord) → is_node r ≡ false → present_revision before ≡ None
    → ¬ IsOutOfOrder before r
begins before r no_node none (inl e) =
    absurd_bool (is_node r) (first_true (is_node r) (not (ends_in_group (last_or None before))) e) no_node
begins before r no_node none (inr (rev, number, also, le)) = let bad : None ≡ Some number = sym none ∙ also in cc

-- a record that is no copy names no copy revision
pub no_copy : (options : Settings) (before : List DumpRecord) (r : DumpRecord)
    → (options.renumber && is_kept_node options r && stays_copy options r) ≡ false
    → ¬ HasBadCopyRevision options before r
no_copy options before r none (e, number, is, why) =
    absurd_bool (options.renumber && is_kept_node options r && stays_copy options r) e none

copy_fine : ¬ HasBadCopyRevision settings (version ∷ zero ∷ one ∷ trunk ∷ two ∷ other ∷ three ∷ []) copy
copy_fine (e, number, is, inl none) =
    let same : 2 ≡ number = (let both : Some 2 ≡ Some number = is in cc) in
    some_none (ap (image (kept_revisions settings records)) same ∙ none)
  where
    some_none : {n : ℕ} → Some n ≡ None → ⊥
    some_none bad = cc
copy_fine (e, number, is, inr above) =
    let same : 2 ≡ number = (let both : Some 2 ≡ Some number = is in cc) in
    let high : 3 < number = above in omega (arith, high, same)

free : AreFaultFree settings records
free before after r at = at_place (λ b x a. NoFault (HoldsOfRecord settings b x)) [] records before after r at (
  free_of settings [] version (follows [] version refl refl) (none_of version refl) refl refl refl
      (no_copy settings [] version refl),
  (
    free_of settings (version ∷ []) zero (begins (version ∷ []) zero refl refl) (none_of zero refl) refl refl refl
        (no_copy settings (version ∷ []) zero refl),
    (
      free_of settings (version ∷ zero ∷ []) one (rises (version ∷ zero ∷ []) one 0 refl refl (lit< tt))
          (none_of one refl) refl refl refl (no_copy settings (version ∷ zero ∷ []) one refl),
      (
        free_of settings (version ∷ zero ∷ one ∷ []) trunk (follows (version ∷ zero ∷ one ∷ []) trunk refl refl)
            (none_of trunk refl) refl refl refl (no_copy settings (version ∷ zero ∷ one ∷ []) trunk refl),
        (
          free_of settings (version ∷ zero ∷ one ∷ trunk ∷ []) two
              (rises (version ∷ zero ∷ one ∷ trunk ∷ []) two 1 refl refl (lit< tt)) (none_of two refl)
              refl refl refl (no_copy settings (version ∷ zero ∷ one ∷ trunk ∷ []) two refl),
          (
            free_of settings (version ∷ zero ∷ one ∷ trunk ∷ two ∷ []) other
                (follows (version ∷ zero ∷ one ∷ trunk ∷ two ∷ []) other refl refl) (none_of other refl)
                refl refl refl (no_copy settings (version ∷ zero ∷ one ∷ trunk ∷ two ∷ []) other refl),
            (
              free_of settings (version ∷ zero ∷ one ∷ trunk ∷ two ∷ other ∷ []) three
                  (rises (version ∷ zero ∷ one ∷ trunk ∷ two ∷ other ∷ []) three 2 refl refl (lit< tt))
                  (none_of three refl)
                  refl refl refl (no_copy settings (version ∷ zero ∷ one ∷ trunk ∷ two ∷ other ∷ []) three refl),
              (
                free_of settings (version ∷ zero ∷ one ∷ trunk ∷ two ∷ other ∷ three ∷ []) copy
                    (follows (version ∷ zero ∷ one ∷ trunk ∷ two ∷ other ∷ three ∷ []) copy refl refl)
                    (none_of copy refl)
                    refl refl refl copy_fine,
                tt,
              ),
            ),
          ),
        ),
      ),
    ),
  ),
)

-- what is written of it
abbrev pub text : List ℕ
text = codes "SVN-fs-dump-format-version: 2\n\nRevision-number: 0\n\n\n"
    ++ codes "Revision-number: 1\n\n\nNode-path: trunk\nNode-kind: dir\n"
    ++ codes "Node-action: add\n\n\n\nRevision-number: 2\n\n\nNode-path: trunk/b\n"
    ++ codes "Node-kind: dir\nNode-action: add\nNode-copyfrom-rev: 1\n"
    ++ codes "Node-copyfrom-path: trunk\n\n\n\n"

-- the part that is written of each record, and of those after it

abbrev pub revision_part : List ℕ → List ℕ
revision_part number = codes "Revision-number: " ++ number ++ codes "\n\n\n"

abbrev trunk_part : List ℕ
trunk_part = codes "Node-path: trunk\nNode-kind: dir\nNode-action: add\n\n\n\n"

abbrev copy_part : List ℕ
copy_part = codes "Node-path: trunk/b\nNode-kind: dir\nNode-action: add\nNode-copyfrom-rev: 1\n"
    ++ codes "Node-copyfrom-path: trunk\n\n\n\n"

abbrev last_part : List ℕ
last_part = revision_part (codes "2") ++ copy_part

is_text : text ≡ codes "SVN-fs-dump-format-version: 2\n\n" ++ revision_part (codes "0") ++ revision_part (codes "1")
    ++ trunk_part ++ last_part
is_text = refl

written : IsWrittenText settings true records text
unfolding digits
written = (
  codes "SVN-fs-dump-format-version: 2\n\n",
  revision_part (codes "0") ++ revision_part (codes "1") ++ trunk_part ++ last_part,
  refl,
  refl,
  (
    revision_part (codes "0"),
    revision_part (codes "1") ++ trunk_part ++ last_part,
    refl,
    ([], none_of zero refl, refl),
    (
      revision_part (codes "1"),
      trunk_part ++ last_part,
      refl,
      ([], none_of one refl, refl),
      (
        trunk_part,
        last_part,
        refl,
        (trunk.headers, [], [], refl, none_of trunk refl, tt, refl),
        (
          [],
          last_part,
          refl,
          refl,
          (
            [],
            last_part,
            refl,
            refl,
            (
              revision_part (codes "2"),
              copy_part,
              refl,
              ([], none_of three refl, refl),
              (
                copy_part,
                [],
                refl,
                (
                  with_header_value copy_revision_name (codes "1") copy.headers,
                  [],
                  [],
                  (2, 1, refl, refl, refl),
                  none_of copy refl,
                  tt,
                  refl,
                ),
                refl,
              ),
            ),
          ),
        ),
      ),
    ),
  ),
)

-- the dump has no fault, and this is written of it
pub clean : IsCleanText settings dump records text
clean = record { whole = whole; fault_free = free; written = written }

-- a record without properties, which isn't padded, gets none; so its text alone counts
pub text_alone : (options : Settings) (all : List DumpRecord) (r : DumpRecord) (after : List DumpRecord)
    → has_header property_length_name r.headers ≡ false
    → (is_revision_record r && is_padded options (group_of r after)) ≡ false → length r.text < 10 ^ 18 → (part : List ℕ)
    → IsWrittenBlock options (kept_revisions options all) r after part → length part + length r.text < 10 ^ 18
text_alone options all r after no_props not_padded small part (old, new, list, how, is) =
    let none : length part ≡ 0 = ap length is
    ∙ ap (λ b. length (if b || has_header property_length_name r.headers then property_block_text new else []))
    not_padded
    ∙ ap (λ b. length (if false || b then property_block_text new else [])) no_props in
    omega (arith, none, small)

-- a record without a text too has nothing that counts
pub no_block : (options : Settings) (all : List DumpRecord) (r : DumpRecord) (after : List DumpRecord)
    → has_header property_length_name r.headers ≡ false
    → (is_revision_record r && is_padded options (group_of r after)) ≡ false → r.text ≡ [] → (part : List ℕ)
    → IsWrittenBlock options (kept_revisions options all) r after part → length part + length r.text < 10 ^ 18
no_block options all r after no_props not_padded empty =
    let no_text : length r.text ≡ 0 = ap length empty in
    text_alone options all r after no_props not_padded (omega (arith, no_text))

-- the lengths of what is written can be read again
pub lengths : LengthsFit settings records
lengths before after r block at is_written = at_place
    (λ b x a. (part : List ℕ) → IsWrittenBlock settings (kept_revisions settings records) x a part
    → length part + length x.text < 10 ^ 18) [] records before after r at (
      no_block settings records version (zero ∷ one ∷ trunk ∷ two ∷ other ∷ three ∷ copy ∷ []) refl refl refl,
      (
        no_block settings records zero (one ∷ trunk ∷ two ∷ other ∷ three ∷ copy ∷ []) refl refl refl,
        (
          no_block settings records one (trunk ∷ two ∷ other ∷ three ∷ copy ∷ []) refl refl refl,
          (
            no_block settings records trunk (two ∷ other ∷ three ∷ copy ∷ []) refl refl refl,
            (
              no_block settings records two (other ∷ three ∷ copy ∷ []) refl refl refl,
              (
                no_block settings records other (three ∷ copy ∷ []) refl refl refl,
                (
                  no_block settings records three (copy ∷ []) refl refl refl,
                  (
                    no_block settings records copy [] refl refl refl,
                    tt,
                  ),
                ),
              ),
            ),
          ),
        ),
      ),
    ) block
