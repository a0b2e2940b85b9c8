-- The layout of a tree is its row of the written-out pattern, wherever it is written.
use Rattle.regex_lite_engine.proofs.Common.{ℕ, suc, ◌+◌, ◌*◌, [], ◌∷◌, length, Some, None, Option}
use Rattle.regex_lite_engine.proofs.Common.{refl, just, Text, Tree, empty, character, class, look}
use Rattle.regex_lite_engine.proofs.Common.{repetition, capture, concat, alternation, Trees, none}
use Rattle.regex_lite_engine.proofs.Common.{more, nullable, IsRegular, Address, part, own, entry}
use Rattle.regex_lite_engine.proofs.Common.{branch_entries, free, holding, reading, Content}
use Rattle.regex_lite_engine.proofs.Common.{place_at, place_in_chain, place_in_branch, layout}
use Rattle.regex_lite_engine.proofs.Common.{chain_layout, branches_layout}
use Rattle.regex_lite_syntax.specs.Tree.Regular.{AreRegular}
use Rattle.regex_lite_engine.specs.Graph.Addresses.{chain_entry}
use Rattle.regex_lite_engine.proofs.graph.AddressLemmas.{own_place, in_part, addresses}
use Rattle.regex_lite_engine.proofs.graph.AddressLemmas.{chain_addresses, branches_addresses}
use Rattle.regex_lite_engine.proofs.graph.CopyRowLemmas.{PartsAre, parts_from_0}
use Rattle.regex_lite_engine.proofs.graph.CopyRowLemmas.{first_part, later_parts}
use Rattle.regex_lite_engine.proofs.nfa.write.NumberingLemmas.{Numbering, Body, Stands, InRow}
use Rattle.regex_lite_engine.proofs.nfa.write.NumberingLemmas.{AreAt, Fits, both_at, row_first}
use Rattle.regex_lite_engine.proofs.nfa.write.NumberingLemmas.{row_after, fits_part}
use Rattle.regex_lite_engine.proofs.nfa.write.NumberingLemmas.{fits_before, fits_last}
use Rattle.regex_lite_engine.proofs.nfa.write.NumberedPlaceLemmas.{StandAll, arrow_at, go_at}
use Rattle.regex_lite_engine.proofs.nfa.write.NumberedPlaceLemmas.{set_at, branches_at}
use Rattle.regex_lite_engine.proofs.nfa.write.NumberedRowLemmas.{fits_repetition}

module _ (by : Numbering) where
  -- the layout of the tree fits, wherever it is written
  abbrev pub TreeFits : Tree → Type 0
  TreeFits tree =
      (pre after : Address) (base exit : ℕ) → Stands by exit after
      → InRow by pre base (addresses tree)
      → Fits by (place_at tree pre after) (addresses tree) (entry tree pre) (layout tree base exit)

  abbrev body_of : (tree : Tree) → TreeFits tree → Body by
  body_of tree fits = record {
    layout = layout tree;
    list = addresses tree;
    enter = entry tree;
    inside = place_at tree;
    fits = fits;
  }

  pub fits_capture : (index : ℕ) (name : Option Text) (body : Tree) → TreeFits body
      → TreeFits (capture index name body)
  fits_capture index name body fits pre after base exit stands in_row =
      let content = place_at (capture index name body) pre after in
      let closing = arrow_at by content (own_place 1) free (Some (2 * index + 1)) exit after refl in
      let list = in_part 0 (addresses body) in
      let in_row_body = row_first by pre (base + 1) list (own_place 0 ∷ []) in_row.1 in
      let inner = fits_part by (body_of body fits) pre (own pre 1) 0 (base + 1) base content in
      let one = inner (λ a. refl) in_row.0 in_row_body in
      let written = layout body (base + 1) base in
      let enter = entry body (part pre 0) in
      let at = arrow_at by content (own_place 0) free (Some (2 * index)) in
      let opening = at written.1 enter refl one.0 in
      let ends = fits_last by pre (base + 1) content list (own_place 0) written.0 _ one.1 opening in
      let more = ends in_row.1 in
      (more.0, (closing stands, more.1))

  mutual
    pub fits_tree : (tree : Tree) → IsRegular tree → TreeFits tree
    fits_tree empty regular pre after base exit stands in_row =
        let content = place_at empty pre after in
        (in_row.0, (go_at by content (own_place 0) exit after refl stands, tt))
    fits_tree (character c) regular pre after base exit stands in_row =
        let at = arrow_at by (place_at (character c) pre after) (own_place 0) in
        (in_row.0, (at (reading (just c)) None exit after refl stands, tt))
    fits_tree (class ranges) regular pre after base exit stands in_row =
        let at = set_at by (place_at (class ranges) pre after) (own_place 0) in
        (in_row.0, (at ranges exit after refl stands, tt))
    fits_tree (look test) regular pre after base exit stands in_row =
        let at = arrow_at by (place_at (look test) pre after) (own_place 0) in
        (in_row.0, (at (holding test) None exit after refl stands, tt))
    fits_tree (repetition least most greedy body) regular pre after base exit stands in_row =
        let inner = body_of body (fits_tree body regular.1) in
        let fits = fits_repetition by pre greedy inner least most (nullable body) after base exit in
        fits stands in_row
    fits_tree (capture index name body) regular pre after base exit stands in_row =
        let inner = fits_tree body regular.1 in
        fits_capture index name body inner pre after base exit stands in_row
    fits_tree (concat none) regular pre after base exit stands in_row = absurd regular.0
    fits_tree (concat (more a rest)) regular pre after base exit stands in_row =
        let content = place_at (concat (more a rest)) pre after in
        let e = parts_from_0 content (place_in_chain (more a rest) pre 0 after) (λ c b. refl) in
        fits_chain (more a rest) regular.1 pre 0 after content base exit e stands in_row
    fits_tree (alternation branches) regular pre after base exit stands in_row =
        let content = place_at (alternation branches) pre after in
        let join = go_at by content (own_place 1) exit after refl stands in
        let list = branches_addresses branches 0 in
        let in_row_here = row_first by pre (base + 1) list (own_place 0 ∷ []) in_row.1 in
        let inside = place_in_branch branches pre 0 (own pre 1) in
        let e = parts_from_0 content inside (λ c a. refl) in
        let inner = fits_branches branches regular.1 pre 0 (own pre 1) content (base + 1) base e in
        let all = inner in_row.0 in_row_here in
        let written = branches_layout branches (base + 1) base in
        let entries = branch_entries branches pre 0 in
        let choice = branches_at by content (own_place 0) written.1 entries refl all.0 in
        let ends = fits_last by pre (base + 1) content list (own_place 0) written.0 _ all.1 in
        let more = ends choice in_row.1 in
        (more.0, (join, more.1))

    fits_chain : (parts : Trees) → AreRegular parts → (pre : Address) (k : ℕ) (after : Address)
        (content : Address → Content) (base exit : ℕ)
        → PartsAre content k (place_in_chain parts pre k after) → Stands by exit after
        → InRow by pre base (chain_addresses parts k)
        → Fits by content (chain_addresses parts k) (chain_entry parts pre k after)
        (chain_layout parts base exit)
    fits_chain none regular pre k after content base exit e stands in_row = (stands, tt)
    fits_chain (more a rest) regular pre k after content base exit e stands in_row =
        let inside = place_in_chain (more a rest) pre k after in
        let others = chain_addresses rest (suc k) in
        let in_row_later = row_first by pre base others (in_part k (addresses a)) in_row in
        let e_later = later_parts content inside k e in
        let ends = fits_chain rest regular.1 pre (suc k) after content base exit e_later stands in
        let later = ends in_row_later in
        let first = body_of a (fits_tree a regular.0) in
        let next = chain_entry rest pre (suc k) after in
        let written = chain_layout rest base exit in
        let fits = fits_before by first pre next k base content others written in
        fits (first_part content inside k e) later in_row

    fits_branches : (branches : Trees) → AreRegular branches → (pre : Address) (k : ℕ)
        (after : Address) (content : Address → Content) (base exit : ℕ)
        → PartsAre content k (place_in_branch branches pre k after) → Stands by exit after
        → InRow by pre base (branches_addresses branches k)
        → StandAll by (branches_layout branches base exit).1 (branch_entries branches pre k)
        × AreAt by content (branches_addresses branches k) (branches_layout branches base exit).0
    fits_branches none regular pre k after content base exit e stands in_row = (tt, tt)
    fits_branches (more a rest) regular pre k after content base exit e stands in_row =
        let inside = place_in_branch (more a rest) pre k after in
        let list = in_part k (addresses a) in
        let others = branches_addresses rest (suc k) in
        let written = layout a base exit in
        let in_row_here = row_first by pre base list others in_row in
        let first = body_of a (fits_tree a regular.0) in
        let e_here = first_part content inside k e in
        let one = fits_part by first pre after k base exit content e_here stands in_row_here in
        let in_row_later = row_after by pre base content list others written.0 one.1 in_row in
        let now = base + length written.0 in
        let e_later = later_parts content inside k e in
        let ends = fits_branches rest regular.1 pre (suc k) after content now exit e_later stands in
        let later = ends in_row_later in
        ((one.0, later.0), both_at by content list others written.0 _ one.1 later.1)
