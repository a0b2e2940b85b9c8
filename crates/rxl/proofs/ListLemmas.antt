-- From the matches that an iterator gives, one after another, to the list of all.
use Rattle.std.proofs.Common.{◌≡◌, ℕ, Bool, true, false, None, List, [], ◌∷◌, ◌++◌, map, flat_map}
use Rattle.std.proofs.Common.{chars, refl, sym, ap, ◌∙◌, subst, ◌||◌}
use Rattle.std.proofs.Math.Bool.{or-false, or-true}
use Rattle.std.proofs.lemmas.List.{append_assoc, append-nil}
use Rattle.regex_lite.specs.Search.Answer.{Found}
use Rattle.regex_lite.specs.Ahead.{Ahead, Passes, AreAhead, IsOver, whole}
use Rattle.regex_lite.specs.Expression.{Expression}
use Rattle.regex_lite.specs.Groups.{Groups}
use Rattle.regex_lite.specs.Items.{AreGroupsFound}
use Rattle.regex_lite.specs.Pieces.{found_span}
use Rattle.regex_lite.specs.Replacements.{AreGroupsOfEach}
use Rattle.regex_lite.proofs.AheadLemmas.{ahead_cons, ahead_nil}
use Rattle.rxl.specs.Printed.{PrintsMatches, PrintsGroups, groups_line, has_some, span_line}

-- The matches ahead of the first, of which some were passed and their lines printed; whether there
-- was one
pub record LeadsOn (first a : Ahead) (has : Bool) (printed : List ℕ) : Type 0 where
  pub on : (list : List Found) → AreAhead a list
      → (all : List Found) × AreAhead first all × (has_some all ≡ (has || has_some list))
      × (printed ++ flat_map span_line (map (found_span (chars first.haystack)) list)
      ≡ flat_map span_line (map (found_span (chars first.haystack)) all))

pub leads_start : (first : Ahead) → LeadsOn first first false []
leads_start first = record { on = λ list are. (list, are, refl, refl) }

pub leads_more : (first old new : Ahead) (has : Bool) (printed : List ℕ) (found : Found)
    (line : List ℕ) → LeadsOn first old has printed → Passes old found new
    → line ≡ span_line (found_span (chars first.haystack) found)
    → LeadsOn first new true (printed ++ line)
leads_more first old new has printed found line leads passes is = record {
  on = λ list are.
      let all = leads.on (found ∷ list) (ahead_cons old new found list passes are) in
      let rest = flat_map span_line (map (found_span (chars first.haystack)) list) in (
        all.0,
        all.1,
        all.2 ∙ or-true has,
        append_assoc printed line rest ∙ ap (λ x. printed ++ (x ++ rest)) is ∙ all.3,
      );
}

pub leads_end : (re : Expression) (haystack : List ℕ) (a : Ahead) (has : Bool) (printed : List ℕ)
    → LeadsOn (whole re haystack None) a has printed → IsOver a
    → PrintsMatches re haystack has printed
leads_end re haystack a has printed leads over =
    let all = leads.on [] (ahead_nil a over) in
    record {
      matches = all.0;
      are_all = all.1;
      known = sym (all.2 ∙ or-false has);
      printed = sym (append-nil printed) ∙ all.3;
    }

-- the line of the groups of a match
abbrev pub line_of : Groups → List ℕ
line_of own = groups_line own.spans

-- The same where the lines are those of the groups
pub record GroupsLeadOn (first a : Ahead) (has : Bool) (printed : List ℕ) : Type 0 where
  pub on : (list : List Found) (groups : List Groups) → AreAhead a list
      → AreGroupsOfEach first.sought first.haystack list groups
      → (all : List Found) × (own : List Groups) × AreAhead first all
      × AreGroupsOfEach first.sought first.haystack all own
      × (has_some all ≡ (has || has_some list))
      × (printed ++ flat_map line_of groups ≡ flat_map line_of own)

pub groups_start : (first : Ahead) → GroupsLeadOn first first false []
groups_start first =
    record { on = λ list groups are each. (list, groups, are, each, refl, refl) }

pub groups_more : (first old new : Ahead) (has : Bool) (printed : List ℕ) (found : Found)
    (own : Groups) → GroupsLeadOn first old has printed → Passes old found new
    → old.sought ≡ first.sought → old.haystack ≡ first.haystack
    → AreGroupsFound old.sought old.haystack found own
    → GroupsLeadOn first new true (printed ++ line_of own)
groups_more first old new has printed found own leads passes same there are = record {
  on = λ list groups ahead each.
      let is = subst (λ re. AreGroupsFound re first.haystack found own) same
      (subst (λ haystack. AreGroupsFound old.sought haystack found own) there are) in
      let all = leads.on (found ∷ list) (own ∷ groups)
      (ahead_cons old new found list passes ahead) (is, each) in (
        all.0,
        all.1,
        all.2,
        all.3,
        all.4 ∙ or-true has,
        append_assoc printed (line_of own) (flat_map line_of groups) ∙ all.5,
      );
}

pub groups_end : (re : Expression) (haystack : List ℕ) (a : Ahead) (has : Bool)
    (printed : List ℕ) → GroupsLeadOn (whole re haystack None) a has printed → IsOver a
    → PrintsGroups re haystack has printed
groups_end re haystack a has printed leads over =
    let all = leads.on [] [] (ahead_nil a over) tt in
    record {
      matches = all.0;
      are_all = all.2;
      groups = all.1;
      each = all.3;
      known = sym (all.4 ∙ or-false has);
      printed = sym (append-nil printed) ∙ all.5;
    }
