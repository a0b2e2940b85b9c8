use Rattle.regex_lite.proofs.Common.{◌≡◌, List, length, chars, take, drop, sym, ap, ◌∙◌, subst}
use Rattle.regex_lite.proofs.Common.{arith, Expression, IsTree}
use Rattle.std.specs.Prelude.{Bool, ◌++◌}
use Rattle.regex_lite_engine.proofs.Common.{take-append_seam, search_start}
use Rattle.regex_lite_engine.specs.Search.AnswerOfList.{TellsWhich}
use Rattle.regex_lite.specs.RegexListSearches.{TellsWhichMatch}
use Rattle.regex_lite.proofs.PairedLemmas.{paired_length}
use Rattle.regex_lite.proofs.string.list.set_searcher.SetSearcher.tell.Goals as goal

pub search-requires-clause-all : goal.search-requires-clause-all
search-requires-clause-all c =
    let own = c.self.invariant in
    let each = paired_length (λ re tree. IsTree re.flags (chars re.pattern) tree)
    c.self.inside.list.now own.0 own.1 in
    let as_many = own.2.1.each_entry in
    let same = ap (λ (list : List Expression). length list) c.self.view_is in
    let whole = ap (λ (reported : List Bool). length reported) c.deref_mut.ensures.value in
    let view = ap (λ (reported : List Bool). length reported) c.set.view_is in
    omega (arith, c.requires.room, each, as_many, same, whole, view)

pub returns-clause-found : goal.returns-clause-found
returns-clause-found c =
    let own = c.self.invariant in
    let new = c.search.new.matched in
    let items = c.set.inside.matched.items in
    let room : length c.deref_mut.result.now ≡ c.set.inside.matched.len = c.deref_mut.ensures.len in
    let len : c.set.inside.matched.len ≡ length new
    = omega (arith, c.search.ensures.length, room) in
    let same = ap (λ n. take n (new ++ drop (length new) items)) len
    ∙ take-append_seam new (drop (length new) items) in
    let bytes = c.args.haystack.now in
    subst (λ (list : List Expression). TellsWhichMatch list bytes c.args.start
    (take c.set.inside.matched.len (new ++ drop (length new) items))) c.self.view_is (
      own.0,
      own.1,
      subst (λ reported. TellsWhich own.0 (chars bytes) (search_start bytes c.args.start) reported)
          (sym same) (c.search.ensures.found own.0 own.2.0 own.2.1),
    )
