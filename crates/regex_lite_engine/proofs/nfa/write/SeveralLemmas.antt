-- Patterns that are laid out one after another are the patterns written out side by side, with
-- numbers in the place of addresses; each is entered in a part of its own.
use Rattle.regex_lite_engine.proofs.Common.{◌≡◌, ℕ, zero, suc, ◌+◌, ◌-◌, ◌<◌, ◌≤◌, List, [], ◌∷◌}
use Rattle.regex_lite_engine.proofs.Common.{length, get_or, slice_get, Some, None, Option}
use Rattle.regex_lite_engine.proofs.Common.{option_map, sym, refl, ap, ◌∙◌, subst, arith}
use Rattle.regex_lite_engine.proofs.Common.{slice_get_within, Tree, IsRegular, Address, IsWithin}
use Rattle.regex_lite_engine.proofs.Common.{row_of, whole_places, renamed, arrows_of, IsRenumbered}
use Rattle.regex_lite_engine.proofs.Common.{IsNumberOf, in_pattern, side_by_side, HasTree, start_of}
use Rattle.regex_lite_engine.proofs.Common.{AreEntries, LeadsBelow, LeadsInto, start_address}
use Rattle.regex_lite_engine.proofs.Common.{written_out, pattern_layout, pattern_table}
use Rattle.regex_lite_engine.proofs.Common.{patterns_table, patterns_entries}
use Rattle.regex_lite_syntax.proofs.ListLemmas.{same_head, same_tail}
use Rattle.regex_lite_engine.specs.Graph.Places.{Place}
use Rattle.regex_lite_engine.specs.Graph.Parts.{HaveOwnParts}
use Rattle.regex_lite_engine.proofs.laws.search.NamedWayLemmas.{mapped_back}
use Rattle.regex_lite_engine.proofs.count.ArrowCountLemmas.{arrows_pattern}
use Rattle.regex_lite_engine.proofs.nfa.write.ApartLemmas.{apart_get}
use Rattle.regex_lite_engine.proofs.nfa.write.NumberingLemmas.{Stands}
use Rattle.regex_lite_engine.proofs.nfa.write.RenumberingLemmas.{numbering_of, is_at_number}
use Rattle.regex_lite_engine.proofs.nfa.write.RenumberingLemmas.{apart_whole, pattern_start}
use Rattle.regex_lite_engine.proofs.nfa.write.RenumberingLemmas.{pattern_is}
use Rattle.regex_lite_engine.proofs.graph.ListedAddressLemmas.{whole_addresses, listed_whole}
use Rattle.regex_lite_engine.proofs.graph.AmongLemmas.{address_number}
use Rattle.regex_lite_syntax.proofs.OptionLemmas.{not_there, same_some}
use Rattle.regex_lite_engine.proofs.nfa.write.SeveralNameLemmas as names
use Rattle.regex_lite_engine.proofs.nfa.write.SeveralRowLemmas.{before, total, placed, entered}
use Rattle.regex_lite_engine.proofs.nfa.write.SeveralRowLemmas.{fits_in, Located, located, row_is}
use Rattle.regex_lite_engine.proofs.nfa.write.SeveralRowLemmas.{same_before}

module _ (trees : List Tree)
    (regular : (k : ℕ) (tree : Tree) → HasTree trees k tree → IsRegular tree)
  where
    abbrev table : List (Place ℕ)
    table = patterns_table trees 0

    abbrev name_of_patterns : ℕ → Address
    name_of_patterns = names.name_of_patterns trees regular

    many : length table ≡ total trees
    many = names.many trees regular

    many_addresses : (number : ℕ) (tree : Tree) → HasTree trees number tree
        → length (whole_addresses tree) ≡ whole_places tree
    many_addresses = names.many_addresses trees regular

    name_at : (number : ℕ) (tree : Tree) → HasTree trees number tree → (q : ℕ)
        → q < whole_places tree
        → name_of_patterns (before trees number + q) ≡ number ∷ get_or (whole_addresses tree) q []
    name_at = names.name_at trees regular

    pub side_by_side_renumbered : IsRenumbered (side_by_side trees) name_of_patterns table
    side_by_side_renumbered = record {
      apart = apart;
      alike = λ q place at. alike q place at (located trees q (low q place at));
      each = each;
      inside = λ q place at. inside q place at (located trees q (low q place at));
    }
      where
        low : (q : ℕ) (place : Place ℕ) → slice_get table q ≡ Some place → q < total trees
        low q place at = omega (arith, slice_get_within table q place at, many)

        moved : (q n : ℕ) (place : Place ℕ) → q ≡ n → slice_get table q ≡ Some place
            → slice_get table n ≡ Some place
        moved q n place e at = subst (λ z. slice_get table z ≡ Some place) e at

        alike : (q : ℕ) (place : Place ℕ) → slice_get table q ≡ Some place → Located trees q
            → side_by_side trees (name_of_patterns q) ≡ Some (renamed name_of_patterns place)
        alike q place at l =
            let s = names.stored trees regular l.number l.tree l.there l.own place l.few
            (moved q (before trees l.number + l.own) place l.same at) in
            ap (λ n. side_by_side trees (name_of_patterns n)) l.same
            ∙ ap (side_by_side trees) (name_at l.number l.tree l.there l.own l.few)
            ∙ ap (λ o. in_pattern l.number o (get_or (whole_addresses l.tree) l.own [])) l.there
            ∙ s.alike

        inside : (q : ℕ) (place : Place ℕ) → slice_get table q ≡ Some place → Located trees q
            → LeadsBelow (length table) place
        inside q place at l =
            (names.stored trees regular l.number l.tree l.there l.own place l.few
            (moved q (before trees l.number + l.own) place l.same at)).inside

        both_apart : (p q : ℕ) → Located trees p → Located trees q
            → name_of_patterns p ≡ name_of_patterns q → p ≡ q
        both_apart p q l m e =
            l.same ∙ same_before trees l.number m.number l.own m.own number own ∙ sym m.same
          where
            names : l.number ∷ get_or (whole_addresses l.tree) l.own []
                ≡ m.number ∷ get_or (whole_addresses m.tree) m.own []
            names = sym (name_at l.number l.tree l.there l.own l.few)
                ∙ ap name_of_patterns (sym l.same) ∙ e ∙ ap name_of_patterns m.same
                ∙ name_at m.number m.tree m.there m.own m.few

            number : l.number ≡ m.number
            number = same_head names

            tree : l.tree ≡ m.tree
            tree = same_some (sym l.there ∙ ap (slice_get trees) number ∙ m.there)

            few : m.own < length (whole_addresses l.tree)
            few = omega (arith, m.few, ap whole_places tree, many_addresses l.number l.tree l.there)

            addresses : get_or (whole_addresses l.tree) l.own []
                ≡ get_or (whole_addresses l.tree) m.own []
            addresses = same_tail names
                ∙ ap (λ t. get_or (whole_addresses t) m.own []) (sym tree)

            own : l.own ≡ m.own
            own = apart_get (whole_addresses l.tree) (apart_whole l.tree) l.own m.own
                (omega (arith, l.few, many_addresses l.number l.tree l.there)) few addresses

        apart : (p q : ℕ) → p < length table → q < length table
            → name_of_patterns p ≡ name_of_patterns q → p ≡ q
        apart p q l m e =
            both_apart p q (located trees p (omega (arith, l, many)))
            (located trees q (omega (arith, m, many))) e

        in_tree : (number : ℕ) (tree : Tree) → HasTree trees number tree → (a : Address)
            (place : Place Address)
            → option_map (renamed (λ b. number ∷ b)) (written_out tree a) ≡ Some place
            → (q : ℕ) × (q < length table) × (name_of_patterns q ≡ number ∷ a)
        in_tree number tree there a place e =
            let back = mapped_back (renamed (λ b. number ∷ b)) (written_out tree a) place e in
            let (q, less, at) =
            address_number a (whole_addresses tree) (listed_whole tree a back.0 back.1) in
            let few : q < whole_places tree =
            omega (arith, less, many_addresses number tree there) in (
              before trees number + q,
              omega (arith, few, many, fits_in trees number tree there),
              name_at number tree there q few ∙ ap (λ b. number ∷ b) at,
            )

        each : (a : Address) (place : Place Address) → side_by_side trees a ≡ Some place
            → (q : ℕ) × (q < length table) × (name_of_patterns q ≡ a)
        each [] place e = absurd cc
        each (number ∷ a) place e = by_tree (slice_get trees number) refl
          where
            by_tree : (o : Option Tree) → slice_get trees number ≡ o
                → (q : ℕ) × (q < length table) × (name_of_patterns q ≡ number ∷ a)
            by_tree None there =
                let gone = sym (ap (λ o. in_pattern number o a) there) ∙ e in absurd cc
            by_tree (Some tree) there =
                in_tree number tree there a place (sym (ap (λ o. in_pattern number o a) there) ∙ e)

    -- and the patterns are entered at these numbers
    pub are_entries : AreEntries trees name_of_patterns table (patterns_entries trees 0)
    are_entries = record {
      each = λ number tree there.
          ((pattern_layout tree (0 + before trees number)).1, entered trees 0 number tree there);
      of_pattern = λ number entry e. of_pattern number entry e (slice_get trees number) refl;
    }
      where
        no_entry : (list : List Tree) (base number entry : ℕ)
            → slice_get (patterns_entries list base) number ≡ Some entry
            → slice_get list number ≡ None → ⊥
        no_entry [] base number entry e gone = cc
        no_entry (tree ∷ list) base zero entry e gone = cc
        no_entry (tree ∷ list) base (suc number) entry e gone =
            no_entry list (base + whole_places tree) number entry e gone

        is_number : (number : ℕ) (tree : Tree) → HasTree trees number tree → (entry : ℕ)
            → (pattern_layout tree (0 + before trees number)).1 ≡ entry
            → IsNumberOf name_of_patterns table (start_of number) entry
        is_number number tree there entry e =
            subst (λ n. IsNumberOf name_of_patterns table (start_of number) n) e (record {
              inside = omega (arith, begins.1.1, high);
              same = ap name_of_patterns (sym at)
                  ∙ name_at number tree there (first - base) few
                  ∙ ap (λ b. number ∷ b) begins.0;
            })
          where
            base : ℕ
            base = 0 + before trees number

            first : ℕ
            first = (pattern_layout tree base).1

            begins : Stands (numbering_of base (whole_addresses tree)) first start_address
            begins = pattern_start tree (regular number tree there) base

            high : base + length (whole_addresses tree) ≤ length table
            high =
                omega
                (arith, many, fits_in trees number tree there, many_addresses number tree there)

            at : before trees number + (first - base) ≡ first
            at = omega (arith, begins.1.0)

            few : first - base < whole_places tree
            few = omega (arith, begins.1.0, begins.1.1, many_addresses number tree there)

        of_pattern : (number entry : ℕ) → slice_get (patterns_entries trees 0) number ≡ Some entry
            → (o : Option Tree) → slice_get trees number ≡ o
            → (tree : Tree) × HasTree trees number tree
            × IsNumberOf name_of_patterns table (start_of number) entry
        of_pattern number entry e None there = absurd (no_entry trees 0 number entry e there)
        of_pattern number entry e (Some tree) there = (
          tree,
          there,
          is_number number tree there entry
              (same_some (sym (entered trees 0 number tree there) ∙ e)),
        )

    -- and each is entered in a part of its own
    pub own_parts : HaveOwnParts trees table (patterns_entries trees 0)
    own_parts number tree entry there at = record {
      low = base;
      is = record {
        inside = omega (arith, many, fits_in trees number tree there);
        entered = only_entry;
        closed = closed;
      };
      arrows = ap (λ n. arrows_of (row_of table n (whole_places tree))) low
          ∙ ap arrows_of (row_is trees 0 number tree there) ∙ arrows_pattern tree base;
    }
      where
        base : ℕ
        base = 0 + before trees number

        low : base ≡ before trees number
        low = omega arith

        all : List Address
        all = whole_addresses tree

        addresses : length all ≡ whole_places tree
        addresses = many_addresses number tree there

        first_is : (pattern_layout tree base).1 ≡ entry
        first_is = same_some (sym (entered trees 0 number tree there) ∙ at)

        begins : Stands (numbering_of base all) (pattern_layout tree base).1 start_address
        begins = pattern_start tree (regular number tree there) base

        only_entry : (k e : ℕ) → slice_get (entry ∷ []) k ≡ Some e
            → IsWithin base (whole_places tree) e
        only_entry zero e is =
            let same = first_is ∙ same_some is in
            (omega (arith, begins.1.0, same), omega (arith, begins.1.1, same, addresses))
        only_entry (suc k) e is = absurd (not_there is)

        closed : (q : ℕ) (place : Place ℕ) → IsWithin base (whole_places tree) q
            → slice_get table q ≡ Some place → LeadsInto (IsWithin base (whole_places tree)) place
        closed q place (above, below) is =
            let own : before trees number + (q - base) ≡ q = omega (arith, above) in
            let few : q - base < whole_places tree = omega (arith, above, below) in
            let in_pattern : slice_get (pattern_table tree base) (q - base) ≡ Some place
            =
            sym (placed trees 0 number tree there (q - base) few) ∙ ap (slice_get table) own ∙ is in
            names.leads_up base (base + length all) (base + whole_places tree)
            (omega (arith, addresses)) place
            (is_at_number (numbering_of base all) (written_out tree) all (pattern_table tree base)
            (pattern_is tree (regular number tree there) base) (q - base) place in_pattern).1
