-- Which patterns match, by what is known of the pattern that is entered at each place.
use Rattle.regex_lite_engine.proofs.Common.{◌≡◌, ℕ, ◌<◌, ◌≤◌, ◌↔◌, Bool, false, List, length}
use Rattle.regex_lite_engine.proofs.Common.{replicate}
use Rattle.regex_lite_engine.proofs.Common.{◌∷◌, [], Some, IsTrue, chars, slice_get}
use Rattle.regex_lite_engine.proofs.Common.{slice_get-get_or}
use Rattle.regex_lite_engine.proofs.Common.{IsCharBoundary, slice_index, slice_index_or, sym, refl}
use Rattle.regex_lite_engine.proofs.Common.{◌∙◌, subst, arith, slice_get_within, table_of_list}
use Rattle.regex_lite_engine.proofs.Common.{StoredList, Tree, HasMatchFrom, position_at}
use Rattle.regex_lite_engine.proofs.Common.{IsNumberedMatch}
use Rattle.regex_lite_engine.proofs.Common.{get_or-replicate, length-replicate}
use Rattle.regex_lite_engine.specs.Graph.SideBySide.{AreRegularPatterns}
use Rattle.regex_lite_engine.specs.Graph.StoredList.{IsGraphOfList}
use Rattle.regex_lite_engine.specs.Search.AnswerOfList.{TellsWhich}
use Rattle.regex_lite_engine.proofs.Common.{HasTree, IsMatchFrom, IsUtf8}
use Rattle.regex_lite_engine.specs.Graph.Places.{Place}
use Rattle.regex_lite_engine.specs.Search.NumberedWords.{HasMatchOfNumber, IsEachAnsweredBy}
use Rattle.regex_lite_engine.proofs.laws.several.NumberedListLemmas.{any_numbered, any_of_numbers}
use Rattle.regex_lite_engine.proofs.search.OneStartLemmas.{only_entry}
use Rattle.regex_lite_syntax.specs.Prefilter.NumberedWords.{NumberedWords, TellsWhichStand}
use Rattle.regex_lite_syntax.proofs.OptionLemmas.{same_some}
use Rattle.regex_lite_meta.specs.AnyOfOne.{HasMatchOfAny}
use Rattle.regex_lite_meta.specs.ListPass.{IsReportedFrom, PassKnowsAll, PassKnows}
use Rattle.regex_lite_meta.specs.declared.list_matches.status.Status.TheVariants.{Open, Left}
use Rattle.regex_lite_meta.proofs.list_matches.PassLemmas.{none_yet}

module _ (list : StoredList) (bytes : List ℕ) (s : ℕ) (trees : List Tree)
    (regular : AreRegularPatterns trees) (is : IsGraphOfList trees list) (number : ℕ) (tree : Tree)
    (there : HasTree trees number tree) where
  abbrev table : List (Place ℕ)
  table = table_of_list list

  abbrev entry : ℕ
  entry = slice_index list.entries number

  to_tree : HasMatchOfNumber table (chars bytes) list.entries s number
      → HasMatchFrom tree (chars bytes) s
  to_tree (i, way, q, j, m) =
      let (other, known, match) = any_of_numbers trees (chars bytes) table list.entries is.name
      is.written is.entries regular s i number way q j m in (
        i,
        j,
        subst (λ t. IsMatchFrom t (chars bytes) s i j) (same_some (sym known ∙ there)) match,
      )

  of_tree : HasMatchFrom tree (chars bytes) s
      → HasMatchOfNumber table (chars bytes) list.entries s number
  of_tree (i, j, match) =
      let (q, way, m) = any_numbered trees (chars bytes) table list.entries is.name is.written
      is.entries regular s number i j tree there match in
      (i, way, q, j, m)

  -- what holds of the pattern that is entered there holds of its tree
  pub reported_of_tree : (reported : Bool) → number < length list.entries
      → IsReportedFrom table bytes entry s reported → IsTrue reported ↔ HasMatchFrom tree
      (chars bytes) s
  reported_of_tree reported within both =
      (λ yes. to_tree (numbered (both.0 yes)), λ match. both.1 (alone (of_tree match)))
    where
      own : slice_get list.entries number ≡ Some entry
      own = slice_get-get_or list.entries number 0 within

      numbered : HasMatchOfAny table (chars bytes) (entry ∷ []) s
          → HasMatchOfNumber table (chars bytes) list.entries s number
      numbered (i, k, way, q, j, m) =
          let (first, same) = only_entry entry k m.entry m.is_entry in (
            i,
            way,
            q,
            j,
            record {
              entry = entry;
              is_entry = own;
              is_match = subst (λ z. IsNumberedMatch table (chars bytes) z s i way q j) (sym same)
                  m.is_match;
            },
          )

      alone : HasMatchOfNumber table (chars bytes) list.entries s number
          → HasMatchOfAny table (chars bytes) (entry ∷ []) s
      alone (i, way, q, j, m) = (
        i,
        0,
        way,
        q,
        j,
        record {
          entry = entry;
          is_entry = refl;
          is_match = subst (λ z. IsNumberedMatch table (chars bytes) z s i way q j)
              (same_some (sym m.is_entry ∙ own)) m.is_match;
        },
      )

module _ (list : StoredList) (bytes : List ℕ) (start : ℕ) where
  -- before a pass all patterns are open
  pub all_open : IsCharBoundary bytes start
      → PassKnowsAll list bytes (position_at bytes start) (position_at bytes start)
      (replicate (length list.entries) (Open start))
  all_open boundary =
      let s = position_at bytes start in
      let n = length list.entries in
      record {
        all = length-replicate n (Open start);
        each = λ number within.
            let table = table_of_list list in
            let entry = slice_index list.entries number in
            let none = none_yet table (chars bytes) entry s in
            subst (PassKnows table bytes entry s s)
            (sym (get_or-replicate n number (Open start) (Left 0) within))
            (record { boundary = boundary; none = none }, none);
      }

  -- what holds of each pattern holds of its tree
  pub reported_which : (matched : List Bool) → start ≤ length bytes
      → length matched ≡ length list.entries
      → ((number : ℕ) → number < length list.entries
      → IsReportedFrom (table_of_list list) bytes (slice_index list.entries number)
      (position_at bytes start) (slice_index_or matched number false))
      → (trees : List Tree) → AreRegularPatterns trees → IsGraphOfList trees list
      → TellsWhich trees (chars bytes) (position_at bytes start) matched
  reported_which matched low all reported trees regular is =
      let each = is.each_entry in
      record {
        all = all ∙ is.each_entry;
        each = λ number tree there.
            let within : number < length list.entries
            = omega (arith, slice_get_within trees number tree there, each) in
            reported_of_tree list bytes (position_at bytes start) trees regular is number tree there
            (slice_index_or matched number false) within (reported number within);
      }

  -- what holds of the words holds of the trees that are nothing but these
  pub words_tell : IsUtf8 bytes → IsCharBoundary bytes start → (words : NumberedWords)
      → IsEachAnsweredBy (table_of_list list) list.entries words → (matched : List Bool)
      → length matched ≡ length list.entries → TellsWhichStand words bytes start matched
      → (trees : List Tree) → AreRegularPatterns trees → IsGraphOfList trees list
      → TellsWhich trees (chars bytes) (position_at bytes start) matched
  words_tell utf8 edge words answers matched all reported trees regular is = record {
    all = all ∙ is.each_entry;
    each = λ number tree there. (
      λ yes. to_tree list bytes s trees regular is number tree there
          ((answers.matches bytes start number utf8 edge).0 ((reported number).0 yes)),
      λ match. (reported number).1
          ((answers.matches bytes start number utf8 edge).1
          (of_tree list bytes s trees regular is number tree there match)),
    );
  }
    where
      s : ℕ
      s = position_at bytes start
