-- What the grammar derives, the machine runs.
use Rattle.regex_lite_syntax.proofs.Common.{◌≡◌, ℕ, ◌+◌, List, [], ◌∷◌, ◌++◌, length, sym, refl, ap}
use Rattle.regex_lite_syntax.proofs.Common.{◌∙◌, subst, add-one, group, Branch, nothing, item}
use Rattle.regex_lite_syntax.proofs.Common.{directive, Alternatives, only, Grammar, Gap}
use Rattle.regex_lite_syntax.proofs.Common.{NamesDiffer, GroupKind, group_tree, Head, Point, onward}
use Rattle.regex_lite_syntax.proofs.Common.{PastGap, Frame, State, first_state, ended, LeadsOn}
use Rattle.regex_lite_syntax.proofs.Common.{stay, go, Text, the, Tree, sequence_of, choice_of}
use Rattle.regex_lite_syntax.proofs.Common.{Flags}
use Rattle.regex_lite_syntax.specs.Grammar.Heads.{outside}
use Rattle.regex_lite_syntax.specs.Grammar.{Item, atom, further}
use Rattle.regex_lite_syntax.specs.Grammar.Branch.{operator}
use Rattle.regex_lite_syntax.specs.Parser.Machine.{opened, closed, parted, with_items}
use Rattle.regex_lite_syntax.proofs.machine.OneStepLemmas.{leads_to, leads_as, leads_step}
use Rattle.regex_lite_syntax.proofs.machine.StepLemmas.{step_open, step_direct, step_close}
use Rattle.regex_lite_syntax.proofs.machine.StepLemmas.{step_part, step_operate, step_atom}

-- the state with these parts
abbrev pub standing : Point → List Frame → (branches items : List Tree) → State
standing p frames branches items =
    record { point = p; frames = frames; branches = branches; items = items }

-- the last branch is under way, and those before it are ended
pub record Underway (p q : Point) (frames : List Frame) (branches : List Tree) : Type 0 where
  pub before : List Tree
  pub items : List Tree
  pub leads : LeadsOn (standing p frames [] []) (standing q frames before items)
  pub branches_are : branches ≡ before ++ sequence_of items ∷ []

-- the frame of a group that is opened here
abbrev pub frame_at : Point → GroupKind → (branches items : List Tree) → Frame
frame_at here kind branches items =
    record { flags = here.flags; kind = kind; branches = branches; items = items }

pub into_group : (level : ℕ) (p here first : Point) (kind : GroupKind) (frames : List Frame)
    (branches items : List Tree)
    → level ≡ length frames → PastGap p here → Head level here first kind
    → LeadsOn (standing p frames branches items)
    (standing first (frame_at here kind branches items ∷ frames) [] [])
unfolding opened
into_group level p here first kind frames branches items depth past head =
    let at_depth = subst (λ n. Head n here first kind) depth head in
    go _ (step_open (standing p frames branches items) here first kind past at_depth) (stay refl)

-- a group as a whole, where its alternatives lead from its head to its end
over_group : (level : ℕ) (p here first last end : Point) (kind : GroupKind) (rest : Text)
    (frames : List Frame)
    (branches items inner : List Tree) → level ≡ length frames → PastGap p here
    → Head level here first kind
    → Underway first last (frame_at here kind branches items ∷ frames) inner → PastGap last end
    → end.rest ≡ the ")" ∷ rest
    → LeadsOn (standing p frames branches items)
    (standing (outside here end rest) frames branches
    (items ++ group_tree kind (choice_of inner) ∷ []))
unfolding closed
over_group level p here first last end kind rest frames branches items inner depth past head u
    past_last e =
    let f = frame_at here kind branches items in
    let into = into_group level p here first kind frames branches items depth past head in
    let out =
    step_close (standing last (f ∷ frames) u.before u.items) end f frames rest past_last e refl in
    let trees = ap (λ x. items ++ group_tree kind (choice_of x) ∷ []) (sym u.branches_are) in
    leads_as (leads_step (leads_to into u.leads) out)
    (ap (standing (outside here end rest) frames branches) trees)

-- the next branch is under way
next_branch : (p last here q : Point) (rest : Text) (frames : List Frame) (before items : List Tree)
    → Underway p last frames before → PastGap last here → here.rest ≡ the "|" ∷ rest
    → LeadsOn (standing (onward here rest) frames before []) (standing q frames before items)
    → LeadsOn (standing p frames [] []) (standing q frames before items)
unfolding parted
next_branch p last here q rest frames before items u past e l =
    let bar = step_part (standing last frames u.before u.items) here rest past e in
    let begun = ap (λ x. standing (onward here rest) frames x []) (sym u.branches_are) in
    leads_to (leads_as (leads_step u.leads bar) begun) l

mutual
  unfolding with_items

  item_leads : {level : ℕ} {here q : Point} {a : Tree} → Item level here q a → (p : Point)
      (frames : List Frame) (branches items : List Tree) → level ≡ length frames → PastGap p here
      → LeadsOn (standing p frames branches items) (standing q frames branches (items ++ a ∷ []))
  item_leads {here} {q} {a} (atom d e) p frames branches items depth past =
      go _ (step_atom (standing p frames branches items) here q.rest a past d) (stay (cc e))
  item_leads {level} {here}
      (group first last end kind inner rest head d past_last c e a_is) p frames branches items
      depth past =
      let f = frame_at here kind branches items in
      let u = alternatives_lead d (f ∷ frames) (ap (λ n. n + 1) depth ∙ add-one (length frames)) in
      let over =
      over_group level p here first last end kind rest frames branches items inner depth past head u
      past_last c in
      leads_as over (cc (e, a_is))

  branch_leads : {level : ℕ} {p q : Point} {items : List Tree} → Branch level p q items
      → (frames : List Frame) (branches : List Tree) → level ≡ length frames
      → LeadsOn (standing p frames branches []) (standing q frames branches items)
  branch_leads (nothing e items_are) frames branches depth = stay (cc (e, items_are))
  branch_leads (item last here before a d past i items_are) frames branches depth =
      let one_more = item_leads i last frames branches before depth past in
      leads_as (leads_to (branch_leads d frames branches depth) one_more) (cc items_are)
  branch_leads {q} (operator last here before a least most greedy d past o e items_are) frames
      branches depth =
      let s = standing last frames branches (before ++ a ∷ []) in
      let st = step_operate s here q.rest before a least most greedy past refl o in
      leads_as (leads_step (branch_leads d frames branches depth) st) (cc (e, items_are))
  branch_leads {q} {items} (directive last here d past s) frames branches depth =
      let st = step_direct (standing last frames branches items) here q past s in
      leads_step (branch_leads d frames branches depth) st

  pub alternatives_lead : {level : ℕ} {p q : Point} {branches : List Tree}
      → Alternatives level p q branches
      → (frames : List Frame) → level ≡ length frames → Underway p q frames branches
  alternatives_lead (only items d branches_are) frames depth = record {
    before = [];
    items = items;
    leads = branch_leads d frames [] depth;
    branches_are = branches_are;
  }
  alternatives_lead {p} {q} (further last here before items rest d past e b branches_are)
      frames depth =
      let u = alternatives_lead d frames depth in
      record {
        before = before;
        items = items;
        leads = next_branch p last here q rest frames before items u past e
            (branch_leads b frames before depth);
        branches_are = branches_are;
      }

-- the machine comes to the end of the pattern, with this tree and these numbers of groups
pub record Ends (flags : Flags) (pattern : Text) (tree : Tree) (groups deepest : ℕ) : Type 0 where
  pub last : State
  pub leads : LeadsOn (first_state flags pattern) last
  pub outermost : last.frames ≡ []
  pub ends : Gap last.point.flags.ignore_whitespace last.point.rest []
  pub tree_is : tree ≡ choice_of (ended last)
  pub groups_are : groups ≡ last.point.groups
  pub deepest_is : deepest ≡ last.point.deepest
  pub names_differ : NamesDiffer last.point.names

pub complete : (flags : Flags) (pattern : Text) (tree : Tree) (groups deepest : ℕ)
    → Grammar flags pattern tree groups deepest → Ends flags pattern tree groups deepest
complete flags pattern tree groups deepest g =
    let u = alternatives_lead g.whole [] refl in
    record {
      last = standing g.last [] u.before u.items;
      leads = u.leads;
      outermost = refl;
      ends = g.ends;
      tree_is = g.tree_is ∙ ap choice_of u.branches_are;
      groups_are = g.groups_are;
      deepest_is = g.deepest_is;
      names_differ = g.names_differ;
    }
