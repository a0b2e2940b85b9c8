-- What the machine runs, the grammar derives.
use Rattle.regex_lite_syntax.proofs.Common.{◌≡◌, ℕ, ◌+◌, List, [], ◌∷◌, ◌++◌, length, sym, refl, ap}
use Rattle.regex_lite_syntax.proofs.Common.{◌∙◌, subst, inl, inr, add-one, AreCharacters, group}
use Rattle.regex_lite_syntax.proofs.Common.{Branch, nothing, item, directive, Alternatives, only}
use Rattle.regex_lite_syntax.proofs.Common.{Grammar, Gap, NamesDiffer, Head, Point, onward, PastGap}
use Rattle.regex_lite_syntax.proofs.Common.{start, Frame, State, first_state, ended, Kind, stop}
use Rattle.regex_lite_syntax.proofs.Common.{kind_at, Does, LeadsOn, stay, go, bar, closing, paren}
use Rattle.regex_lite_syntax.proofs.Common.{Text, the, Tree, sequence_of, choice_of, Flags}
use Rattle.regex_lite_syntax.specs.Grammar.{further}
use Rattle.regex_lite_syntax.specs.Grammar.Branch.{operator as operated}
use Rattle.regex_lite_syntax.specs.Grammar.Item.{atom as atom_item}
use Rattle.regex_lite_syntax.specs.Parser.Machine.{opened, closed, parted, with_items, operator}
use Rattle.regex_lite_syntax.specs.Parser.Machine.{atom}

-- these branches have been read since that point, and these items of a further one
pub data Partial (level : ℕ) (from p : Point) (branches items : List Tree) : Type 0 where
  first : branches ≡ [] → Branch level from p items → Partial level from p branches items
  later : (last here : Point) (rest : Text) → Alternatives level from last branches
      → PastGap last here → here.rest ≡ the "|" ∷ rest → Branch level (onward here rest) p items
      → Partial level from p branches items

-- the open groups, which begin at these texts, where the alternatives of the innermost begin at
-- `from`
abbrev pub Stacked : (begin : Point) → List Frame → (begun : List Text) → (from : Point) → Type 0
Stacked begin [] begun from = (from ≡ begin) × (begun ≡ [])
Stacked begin (f ∷ frames) begun from =
    (outer : Point) × (last : Point) × (here : Point) × (below : List Text)
    × Partial (length frames) outer last f.branches f.items
    × PastGap last here × Head (length frames) here from f.kind × (f.flags ≡ here.flags)
    × (begun ≡ here.rest ∷ below) × Stacked begin frames below outer

-- what has been read up to a state, and the texts at which its open groups begin, the innermost
-- first
pub record Stands (begin : Point) (begun : List Text) (s : State) : Type 0 where
  pub from : Point
  pub below : Stacked begin s.frames begun from
  pub here : Partial (length s.frames) from s.point s.branches s.items

-- how a step past a gap, at p, changes the texts at which the open groups begin
pub data Keeps (s : State) (p : Point) (q : State) (begun next : List Text) : Type 0 where
  opens : length q.frames ≡ length s.frames + 1 → next ≡ p.rest ∷ begun → Keeps s p q begun next
  closes : (text : Text) → length q.frames + 1 ≡ length s.frames → begun ≡ text ∷ next
      → Keeps s p q begun next
  stays : length q.frames ≡ length s.frames → next ≡ begun → Keeps s p q begun next

pub all_of : (level : ℕ) (from p : Point) (branches items : List Tree)
    → Partial level from p branches items
    → Alternatives level from p (branches ++ sequence_of items ∷ [])
all_of level from p branches items (first e b) =
    only items b (ap (λ x. x ++ sequence_of items ∷ []) e)
all_of level from p branches items (later last here rest d past e b) =
    further last here branches items rest d past e b refl

-- what is read on from where the branch under way began is read on there
on_branch : {level : ℕ} {from p q : Point} {branches items next : List Tree}
    → ((start : Point) → Branch level start p items → Branch level start q next)
    → Partial level from p branches items → Partial level from q branches next
on_branch {from} reads (first e b) = first e (reads from b)
on_branch reads (later last here rest d past e b) =
    later last here rest d past e (reads (onward here rest) b)

-- what has been read up to a state that a step leads to
pub record StandsOn (begin : Point) (begun : List Text) (s : State) (p : Point) (q : State)
    : Type 0 where
  pub next : List Text
  pub stands : Stands begin next q
  pub keeps : Keeps s p q begun next

-- where no group begins or ends
same_groups : {begin : Point} {begun : List Text} {s q : State} {p : Point} → Stands begin begun q
    → length q.frames ≡ length s.frames → StandsOn begin begun s p q
same_groups {begin} {begun} stands same =
    record { next = begun; stands = stands; keeps = stays same refl }

-- a group is closed
closed_on : (begin : Point) (begun : List Text) (s : State) (p : Point) (f : Frame)
    (frames : List Frame) (rest : Text) → s.frames ≡ f ∷ frames
    → Stands begin begun s → PastGap s.point p → p.rest ≡ the ")" ∷ rest
    → StandsOn begin begun s p (closed s p f frames rest)
unfolding closed
closed_on begin begun s p f frames rest e h past c =
    let below = subst (λ x. Stacked begin x begun h.from) e h.below in
    let here = subst (λ x. Partial (length x) h.from s.point s.branches s.items) e h.here in
    let all = all_of _ h.from s.point s.branches s.items here in
    let inner =
    subst (λ n. Alternatives n h.from s.point (ended s)) (sym (add-one (length frames))) all in
    let after = ap (λ x. record p { rest = rest; flags = x }) below.7 in
    record {
      next = below.3;
      stands = record {
        from = below.0;
        below = below.9;
        here = on_branch (λ _ b. item below.1 below.2 f.items _ b below.5
            (group h.from s.point p f.kind (ended s) rest below.6 inner past c after refl) refl)
            below.4;
      };
      keeps = closes below.2.rest (add-one (length frames) ∙ sym (ap length e)) below.8;
    }

pub does_keeps : (k : Kind) (begin : Point) (begun : List Text) (s : State) (p : Point) (q : State)
    → Stands begin begun s → PastGap s.point p → Does k s p q → StandsOn begin begun s p q
unfolding opened parted with_items
does_keeps stop begin begun s p q h past d = absurd d
does_keeps paren begin begun s p q h past (inl d) =
    subst (λ x. StandsOn begin begun s p x) (sym d.3) (record {
      next = p.rest ∷ begun;
      stands = record {
        from = d.0;
        below = (h.from, s.point, p, begun, h.here, past, d.2, refl, refl, h.below);
        here = first refl (nothing refl refl);
      };
      keeps = opens (sym (add-one (length s.frames))) refl;
    })
does_keeps paren begin begun s p q h past (inr d) =
    let partial = on_branch (λ _ b. directive s.point p b past d.1) h.here in
    subst (λ x. StandsOn begin begun s p x) (sym d.2)
    (same_groups (record { from = h.from; below = h.below; here = partial }) refl)
does_keeps closing begin begun s p q h past d =
    subst (λ x. StandsOn begin begun s p x) (sym d.5)
    (closed_on begin begun s p d.1 d.2 d.0 d.4 h past d.3)
does_keeps bar begin begun s p q h past d =
    let all = all_of (length s.frames) h.from s.point s.branches s.items h.here in
    let partial = later s.point p d.0 all past d.1 (nothing refl refl) in
    subst (λ x. StandsOn begin begun s p x) (sym d.2)
    (same_groups (record { from = h.from; below = h.below; here = partial }) refl)
does_keeps operator begin begun s p q h past d =
    let partial = on_branch {q = onward p d.0} (λ from b. operated s.point p d.1 d.2 d.3 d.4 d.5
    (subst (λ x. Branch (length s.frames) from s.point x) d.6 b) past d.7 refl refl) h.here in
    subst (λ x. StandsOn begin begun s p x) (sym d.8)
    (same_groups (record { from = h.from; below = h.below; here = partial }) refl)
does_keeps atom begin begun s p q h past d =
    let partial = on_branch {q = onward p d.0}
    (λ _ b. item s.point p s.items d.1 b past (atom_item d.2 refl) refl) h.here in
    subst (λ x. StandsOn begin begun s p x) (sym d.3)
    (same_groups (record { from = h.from; below = h.below; here = partial }) refl)

pub leads_keeps : (begin : Point) (s q : State) → LeadsOn s q → (begun : List Text)
    → Stands begin begun s → (next : List Text) × Stands begin next q
leads_keeps begin s q (stay e) begun h = (begun, subst (λ x. Stands begin begun x) e h)
leads_keeps begin s q (go m st l) begun h =
    let on = does_keeps (kind_at st.past.rest) begin begun s st.past m h st.gap st.does in
    leads_keeps begin m q l on.next on.stands

pub stands_first : (flags : Flags) (pattern : Text)
    → Stands (start flags pattern) [] (first_state flags pattern)
stands_first flags pattern = record {
  from = start flags pattern;
  below = (refl, refl);
  here = first refl (nothing refl refl);
}

-- a run to where only a gap is left, with no group open and no name twice, gives the pattern its
-- tree
pub sound : (flags : Flags) (pattern : Text) (s : State) → LeadsOn (first_state flags pattern) s
    → s.frames ≡ [] → Gap s.point.flags.ignore_whitespace s.point.rest []
    → NamesDiffer s.point.names → AreCharacters pattern
    → Grammar flags pattern (choice_of (ended s)) s.point.groups s.point.deepest
sound flags pattern s l outermost g differ characters =
    let begin = start flags pattern in
    let on = leads_keeps begin _ s l [] (stands_first flags pattern) in
    let h = on.1 in
    let from_is = (subst (λ x. Stacked begin x on.0 h.from) outermost h.below).0 in
    let here = subst (λ x. Partial (length x) h.from s.point s.branches s.items) outermost h.here in
    let all = all_of 0 h.from s.point s.branches s.items here in
    record {
      characters = characters;
      last = s.point;
      branches = ended s;
      whole = subst (λ x. Alternatives 0 x s.point (ended s)) from_is all;
      ends = g;
      tree_is = refl;
      groups_are = refl;
      deepest_is = refl;
      names_differ = differ;
    }
