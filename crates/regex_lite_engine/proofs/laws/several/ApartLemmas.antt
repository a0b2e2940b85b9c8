-- A pattern that is written out beside others is the pattern by itself, under other names.
use Rattle.regex_lite_engine.proofs.Common.{◌≡◌, ℕ, List, [], ◌∷◌, Some, None, Option, option_map}
use Rattle.regex_lite_engine.proofs.Common.{unwrap_or, refl, ap, ◌∙◌, subst, Text, Tree, Address}
use Rattle.regex_lite_engine.proofs.Common.{with_arrows, renamed, step_from, step, in_pattern}
use Rattle.regex_lite_engine.proofs.Common.{HasTree, IsWay, end_address, start_address, written_out}
use Rattle.regex_lite_engine.proofs.Common.{place_of_pattern, IsWayThrough}
use Rattle.regex_lite_syntax.proofs.ListLemmas.{same_tail}
use Rattle.regex_lite_engine.specs.Graph.Places.{Place}
use Rattle.regex_lite_engine.specs.Graph.SideBySide.{place_of_patterns, end_of, IsWayOfPattern}
use Rattle.regex_lite_engine.proofs.laws.search.NamedWayLemmas.{unnamed_walk, named_way}
use Rattle.regex_lite_engine.proofs.laws.search.NamedWayLemmas.{unnamed_way}
use Rattle.regex_lite_engine.proofs.laws.search.NumberedWayLemmas.{name_pair, step_renamed}

module _ (trees : List Tree) (number : ℕ) (tree : Tree) (there : HasTree trees number tree)
    (haystack : Text) where
  abbrev by_itself : Address × ℕ → ℕ → Option (Address × ℕ)
  by_itself = step haystack (place_of_pattern tree)

  abbrev among : Address × ℕ → ℕ → Option (Address × ℕ)
  among = step haystack (place_of_patterns trees)

  abbrev named : Address × ℕ → Address × ℕ
  named = name_pair (λ a. number ∷ a)

  abbrev Known : Address × ℕ → Type 0
  Known n = Unit {0}

  place_among : (a : Address)
      → place_of_patterns trees (number ∷ a) ≡ renamed (λ b. number ∷ b) (place_of_pattern tree a)
  place_among a =
      ap (λ o. unwrap_or (in_pattern number o a) (with_arrows [])) there
      ∙ by_content (written_out tree a)
    where
      by_content : (o : Option (Place Address))
          → unwrap_or (option_map (renamed (λ b. number ∷ b)) o) (with_arrows [])
          ≡ renamed (λ b. number ∷ b) (unwrap_or o (with_arrows []))
      by_content None = refl
      by_content (Some place) = refl

  alike : (x : Address × ℕ) (k : ℕ) → Known x
      → among (named x) k ≡ option_map named (by_itself x k)
  alike x k known =
      ap (λ p. step_from haystack p x.1 k) (place_among x.0)
      ∙ step_renamed haystack (λ b. number ∷ b) (place_of_pattern tree x.0) x.1 k

  apart : (x y : Address × ℕ) → Known x → Known y → named x ≡ named y → x ≡ y
  apart x y p q e =
      let there = same_tail (ap (λ (z : Address × ℕ). z.0) e) in
      λ t. (there t, (e t).1)

  pub way_by_itself : (i : ℕ) (arrows : List ℕ) (j : ℕ)
      → IsWayOfPattern trees number haystack i arrows j → IsWayThrough tree haystack i arrows j
  way_by_itself i arrows j is =
      let walk = unnamed_walk by_itself among named Known (λ x y k p s. tt) alike apart arrows
      (start_address, i) (end_of number, j) tt is.0 in
      let way = unnamed_way by_itself among named Known (λ x y k p s. tt) alike apart arrows
      (start_address, i) walk.0 tt walk.2 is.1 in
      let same = apart walk.0 (end_address, j) tt tt walk.1 in
      subst (λ n. IsWay (Address × ℕ) by_itself (start_address, i) arrows n) same way

  pub way_among : (i : ℕ) (arrows : List ℕ) (j : ℕ)
      → IsWayThrough tree haystack i arrows j → IsWayOfPattern trees number haystack i arrows j
  way_among i arrows j is =
      named_way by_itself among named Known (λ x y k p s. tt) alike apart arrows
      (start_address, i) (end_address, j) tt is
