use Rattle.regex_lite_meta.proofs.Common.{◌≡◌, ◌++◌, take, ways_of}
use Rattle.regex_lite_meta.proofs.lazy_dfa.automaton.LazyDfa.gather.Given as goal

-- the threads before this one are gathered
abbrev pub invariant-threads : goal.invariant-threads
invariant-threads l = l.self ≡ record l.initial.self {
  pending = l.initial.self.pending ++ ways_of l.first (take l.k l.memory.threads);
}
