-- The threads of a list, and those of the starts after them.
use Rattle.regex_lite_engine.proofs.Common.{◌≡◌, ℕ, zero, suc, ◌-◌, ◌<◌, ◌≤◌, ◌⊎◌, List, [], ◌∷◌}
use Rattle.regex_lite_engine.proofs.Common.{◌++◌, length, replicate, slice_get, Some, None, sym}
use Rattle.regex_lite_engine.proofs.Common.{refl, ap, ◌∙◌, arith, Thread, thread_at, begun}
use Rattle.regex_lite_engine.proofs.Common.{Reported, Row, Start, Best, IsBlank}
use Rattle.regex_lite_engine.specs.Pikevm.Machine.{State}
use Rattle.regex_lite_syntax.proofs.OptionLemmas.{not_there, same_some}

pub at_end : (ts : List Thread) (thread : Thread)
    → thread_at (ts ++ thread ∷ []) (length ts) ≡ thread
at_end [] thread = refl
at_end (t ∷ ts) thread = at_end ts thread

pub at_front : (ts more : List Thread) (k : ℕ) → k < length ts
    → thread_at (ts ++ more) k ≡ thread_at ts k
at_front [] more k lt = absurd (omega (arith, lt))
at_front (t ∷ ts) more zero lt = refl
at_front (t ∷ ts) more (suc k) lt = at_front ts more k (omega (arith, lt))

-- The position's own starts are the last threads. They are left out where there is a match
abbrev pub Begun : List Start → (reported : ℕ → Reported) → Best → (before after : List Thread)
    → Type 0
Begun starts reported best before after =
    ((best ≡ None)
    × ((blank : Row) × IsBlank blank × (after ≡ before ++ begun reported blank starts)))
    ⊎ ((best ≡ None → ⊥) × (after ≡ before))

pub begun_length : (reported : ℕ → Reported) (blank : Row) (starts : List Start)
    → length (begun reported blank starts) ≡ length starts
begun_length reported blank [] = refl
begun_length reported blank (start ∷ starts) = ap suc (begun_length reported blank starts)

-- the thread of a start
pub begun_at : (reported : ℕ → Reported) (blank : Row) (starts : List Start) (k : ℕ) (start : Start)
    → slice_get starts k ≡ Some start
    → thread_at (begun reported blank starts) k ≡ (start.place, reported start.number, blank)
begun_at reported blank [] k start e = absurd (not_there e)
begun_at reported blank (first ∷ starts) zero start e =
    ap (λ (s : Start). (s.place, reported s.number, blank)) (same_some e)
begun_at reported blank (first ∷ starts) (suc k) start e = begun_at reported blank starts k start e

pub at_back : (ts more : List Thread) (k : ℕ) → length ts ≤ k
    → thread_at (ts ++ more) k ≡ thread_at more (k - length ts)
at_back [] more k le = let same : k ≡ k - 0 = omega arith in ap (thread_at more) same
at_back (t ∷ ts) more zero le = absurd (omega (arith, le))
at_back (t ∷ ts) more (suc k) le =
    let same : k - length ts ≡ suc k - suc (length ts) = omega arith in
    at_back ts more k (omega (arith, le)) ∙ ap (thread_at more) same

-- the thread of a start is loaded
pub begun_taken : (m n : State) (reported : ℕ → Reported) (starts : List Start) (k : ℕ)
    (start : Start) (kept : Reported) → length m.threads ≤ k
    → slice_get starts (k - length m.threads) ≡ Some start → kept ≡ reported start.number
    → n ≡ record m { row = replicate (length m.row) None } →
    thread_at (m.threads ++ begun reported (replicate (length m.row) None) starts) k
    ≡ (start.place, kept, n.row)
begun_taken m n reported starts k start kept le there is cleared =
    let blank : Row = replicate (length m.row) None in
    at_back m.threads (begun reported blank starts) k le
    ∙ begun_at reported blank starts (k - length m.threads) start there
    ∙ ap (λ t. (start.place, t, blank)) (sym is)
    ∙ ap (λ r. (start.place, kept, r)) (sym (ap (λ (z : State). z.row) cleared))
