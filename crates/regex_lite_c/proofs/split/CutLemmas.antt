-- Pieces of a text, one after another.
use Rattle.regex_lite_c.proofs.Common.{◌≡◌, ℕ, suc, ◌+◌, ◌-◌, ◌<◌, true, false, List, [], ◌∷◌, ◌++◌}
use Rattle.regex_lite_c.proofs.Common.{length, slice_set, Some, Option, chars, unwrap_or, sym, refl}
use Rattle.regex_lite_c.proofs.Common.{ap, ◌∙◌, subst, append-nil, arith, length-append, length-map}
use Rattle.regex_lite_c.proofs.Common.{map-append, Found, IsAnswerOf, found_span, span_of}
use Rattle.regex_lite_c.proofs.Common.{AreWritten, ended_of, Span}
use Rattle.regex_lite_c.specs.declared.types.MatchWalk.{MatchWalk}
use Rattle.regex_lite.specs.Ahead.{Ahead, IsOver, Passes}
use Rattle.regex_lite_c.specs.Cuts.{ArePiecesListed, last_end, pieces_before, rest_after, spans_in}
use Rattle.regex_lite_c.specs.declared.types.Cut.{Cut}
use Rattle.regex_lite_c.proofs.walk.WalkLemmas.{Lists, lists_all, lists_more}
use Rattle.regex_lite_c.proofs.walk.WalkLemmas.{lists_to_end, written_more}

-- one more match has one more piece before it
before_more : (ended : Option ℕ) (spans : List (ℕ × ℕ)) (span : ℕ × ℕ)
    → pieces_before ended (spans ++ (span ∷ []))
    ≡ pieces_before ended spans ++ (Some (unwrap_or (last_end ended spans) 0, span.0) ∷ [])
before_more ended [] span = refl
before_more ended (own ∷ spans) span =
    ap (λ xs. Some (unwrap_or ended 0, own.0) ∷ xs) (before_more (Some own.1) spans span)

-- and the last of them is that match
end_more : (ended : Option ℕ) (spans : List (ℕ × ℕ)) (span : ℕ × ℕ)
    → last_end ended (spans ++ (span ∷ [])) ≡ Some span.1
end_more ended [] span = refl
end_more ended (own ∷ spans) span = end_more (Some own.1) spans span

-- there are as many pieces as matches
length_before : (ended : Option ℕ) (spans : List (ℕ × ℕ))
    → length (pieces_before ended spans) ≡ length spans
length_before ended [] = refl
length_before ended (own ∷ spans) = ap suc (length_before (Some own.1) spans)

-- where a cut stands: what is ahead, where the caller goes on, and what the buffer holds
pub record Stage : Type 0 where
  pub ahead : Ahead
  pub walk : MatchWalk
  pub spans : List Span

abbrev pub cut_stage : Ahead → MatchWalk → List Span → Stage
cut_stage ahead walk spans = record { ahead = ahead; walk = walk; spans = spans }

-- since the start the pieces before this many matches were written, the first of those ahead there
pub record AreSoFar (start now : Stage) (k : ℕ) : Type 0 where
  pub list : List Found
  pub number : length list ≡ k
  pub lists : Lists start.ahead now.ahead (length start.spans) (length start.spans - k) list
  pub written : AreWritten
      (pieces_before (ended_of start.walk) (spans_in start.ahead.haystack list)) start.spans
      now.spans
  pub walked : ended_of now.walk
      ≡ last_end (ended_of start.walk) (spans_in start.ahead.haystack list)

-- so of the matches of a text
many : (start : Ahead) (ended : Option ℕ) (list : List Found)
    → length (pieces_before ended (spans_in start.haystack list)) ≡ length list
many start ended list =
    length_before ended (spans_in start.haystack list)
    ∙ length-map list (found_span (chars start.haystack))

-- this piece, after those that were written, ends there
abbrev pub IsPieceTo : Stage → (end : ℕ) → Span → Type 0
IsPieceTo now end piece = piece ≡ span_of (Some (unwrap_or (ended_of now.walk) 0, end))

-- the piece before the next match is written, and the walk goes on after it
pub record IsOneMore (old new : Stage) (k : ℕ) : Type 0 where
  pub found : Found
  pub piece : Span
  pub below : k < length old.spans
  pub passes : Passes old.ahead found new.ahead
  pub before : IsPieceTo old (found_span (chars old.ahead.haystack) found).0 piece
  pub written : new.spans ≡ slice_set old.spans k piece
  pub ends : ended_of new.walk ≡ Some (found_span (chars old.ahead.haystack) found).1

-- so still with one more
pub one_piece_more : (start old new : Stage) (k : ℕ) → AreSoFar start old k
    → length old.spans ≡ length start.spans → IsOneMore old new k → AreSoFar start new (k + 1)
one_piece_more start old new k so same one =
    let buffer = length start.spans in
    let ended = ended_of start.walk in
    let found = one.found in
    let tell = found_span (chars start.ahead.haystack) in
    let own = tell found in
    let spans = spans_in start.ahead.haystack so.list in
    let here : found_span (chars old.ahead.haystack) found ≡ own =
    ap (λ bytes. found_span (chars bytes) found) so.lists.haystack in
    let longer : spans_in start.ahead.haystack (so.list ++ (found ∷ [])) ≡ spans ++ (own ∷ []) =
    map-append tell so.list (found ∷ []) in
    let less : buffer - k ≡ suc (buffer - (k + 1)) = omega (arith, one.below, same) in
    record {
      list = so.list ++ (found ∷ []);
      number = omega (arith, length-append so.list (found ∷ []), so.number);
      lists = lists_more (λ own. own) IsAnswerOf start.ahead old.ahead new.ahead buffer
          (buffer - (k + 1)) so.list found
          (subst (λ n. Lists start.ahead old.ahead buffer n so.list) less so.lists) one.passes;
      written =
          subst (λ reported. AreWritten reported start.spans new.spans)
          (sym (ap (pieces_before ended) longer ∙ before_more ended spans own))
          (subst (λ now. AreWritten
          (pieces_before ended spans ++ (Some (unwrap_or (last_end ended spans) 0, own.0) ∷ []))
          start.spans now) (sym one.written)
          (written_more span_of (pieces_before ended spans)
          (Some (unwrap_or (last_end ended spans) 0, own.0)) start.spans old.spans k one.piece
          so.written (many start.ahead ended so.list ∙ so.number) one.below
          (one.before
          ∙ ap (λ e. span_of
          (Some (unwrap_or e 0, (found_span (chars old.ahead.haystack) found).0))) so.walked
          ∙ ap (λ s. span_of (Some (unwrap_or (last_end ended spans) 0, s.0))) here)));
      walked = one.ends ∙ ap (λ s. Some s.1) here
          ∙ sym (ap (last_end ended) longer ∙ end_more ended spans own);
    }

-- no match was left, and the rest was written as the last piece
pub last_piece : (start now : Stage) (k : ℕ) (piece : Span) → AreSoFar start now k
    → k < length now.spans → length now.spans ≡ length start.spans → IsOver now.ahead
    → IsPieceTo now (length start.ahead.haystack) piece
    → ArePiecesListed start.ahead (ended_of start.walk)
    (record { walk = now.walk; is_over = true }) start.spans (slice_set now.spans k piece) (k + 1)
last_piece start now k piece so below same over is =
    let buffer = length start.spans in
    let bytes = length start.ahead.haystack in
    let ended = ended_of start.walk in
    let spans = spans_in start.ahead.haystack so.list in
    let before = pieces_before ended spans in
    let rest = rest_after ended spans bytes in
    let number = many start.ahead ended so.list in
    record {
      list = so.list;
      are_first = lists_to_end (λ own. own) IsAnswerOf start.ahead now.ahead buffer (buffer - k)
          so.list so.lists over;
      over = λ _. omega (arith, so.number, below, same);
      full = λ wrong. absurd cc;
      written = written_more span_of before rest start.spans now.spans k piece so.written
          (number ∙ so.number) below
          (is ∙ ap (λ e. span_of (Some (unwrap_or e 0, bytes))) so.walked);
      number = omega (arith, length-append before (rest ∷ []), number, so.number);
      goes_on = so.walked;
    }

-- the buffer is full
pub full_of_pieces : (start : Stage) (cut : Cut) (now : Ahead) (new : List Span) (k : ℕ)
    → AreSoFar start (record { ahead = now; walk = cut.walk; spans = new }) k
    → k ≡ length start.spans → cut.is_over ≡ false
    → ArePiecesListed start.ahead (ended_of start.walk) cut start.spans new k
full_of_pieces start cut now new k so all begun =
    let ended = ended_of start.walk in
    let spans = spans_in start.ahead.haystack so.list in
    let same : pieces_before ended spans
    ≡ pieces_before ended spans ++ [] = sym (append-nil (pieces_before ended spans)) in
    rw begun (record {
      list = so.list;
      are_first = lists_all (λ own. own) IsAnswerOf start.ahead now (length start.spans) so.list
          (subst (λ n. Lists start.ahead now (length start.spans) n so.list) (omega (arith, all))
          so.lists);
      over = λ wrong. absurd cc;
      full = λ _. so.number ∙ all;
      written = subst (λ reported. AreWritten reported start.spans new) same so.written;
      number = sym (ap length (sym same) ∙ many start.ahead ended so.list ∙ so.number);
      goes_on = so.walked;
    })
