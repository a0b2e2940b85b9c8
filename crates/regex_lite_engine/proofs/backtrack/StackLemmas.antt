-- Frames in a list that grows at its end.
use Rattle.regex_lite_engine.proofs.Common.{◌≡◌, ℕ, zero, suc, ◌-◌, ◌<◌, ◌≤◌, List, [], ◌∷◌, ◌++◌}
use Rattle.regex_lite_engine.proofs.Common.{map, reverse, length, drop, slice_index, sym, ap, ◌∙◌}
use Rattle.regex_lite_engine.proofs.Common.{subst, arith, drop-cons, length-map, map-append, Held}
use Rattle.regex_lite_engine.proofs.Common.{Row}
use Rattle.std.proofs.lemmas.List.{length-reverse, reverse-append}
use Rattle.regex_lite_engine.specs.declared.backtrack.frame.Frame as code
use Rattle.regex_lite_engine.specs.Backtrack.Machine.{Frame, explore, frame_of}

pub held_is : (a b : Held) → a.frames ≡ b.frames → a.row ≡ b.row → a.room ≡ b.room → a ≡ b
held_is a b f r m =
    ap (λ z. held z a.row a.room) f ∙ ap (λ z. held b.frames z a.room) r
    ∙ ap (λ z. held b.frames b.row z) m
  where
    held : List Frame → Row → ℕ → Held
    held frames row room = record { frames = frames; row = row; room = room }

-- as many as are given
pub frames_long : (items : List code.Frame) → length (reverse (map frame_of items)) ≡ length items
frames_long items = length-reverse (map frame_of items) ∙ length-map items frame_of

-- the last is the next
pub last_is_next : (items : List code.Frame) (x : code.Frame)
    → reverse (map frame_of (items ++ x ∷ [])) ≡ frame_of x ∷ reverse (map frame_of items)
last_is_next items x =
    ap reverse (map-append frame_of items (x ∷ []))
    ∙ reverse-append (map frame_of items) (frame_of x ∷ [])

-- the place before those that are put on it
pub one_before : (places : List ℕ) (at i : ℕ) (frames : List Frame) → 0 < i → i ≤ length places →
    explore (slice_index places (i - 1)) at ∷ (map (λ q. explore q at) (drop i places) ++ frames)
    ≡ map (λ q. explore q at) (drop (i - 1) places) ++ frames
one_before places at zero frames some le = absurd (omega (arith, some))
one_before places at (suc k) frames some le =
    subst (λ j.
    explore (slice_index places j) at ∷ (map (λ q. explore q at) (drop (suc k) places) ++ frames)
    ≡ map (λ q. explore q at) (drop j places) ++ frames) same
    (sym (ap (λ z. map (λ q. explore q at) z ++ frames) (drop-cons places k 0 (omega (arith, le)))))
  where
    same : k ≡ suc k - 1
    same = omega arith
