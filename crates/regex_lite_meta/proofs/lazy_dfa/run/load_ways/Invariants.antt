use Rattle.regex_lite_meta.proofs.Common.{◌≡◌, [], map, take, None, best_of}
use Rattle.regex_lite_meta.specs.LazyDfa.Running.{thread_from, GoesOnWith}
use Rattle.regex_lite_meta.proofs.lazy_dfa.run.load_ways.Given as goal

abbrev pub invariant-loop-way : goal.invariant-loop-way
invariant-loop-way l = record {
  next : l.cache.walk.memory.next ≡ map (thread_from l.first) (take l.way-index l.ways);
  none : best_of l.cache.best ≡ None;
  threads : l.cache.walk.memory.threads ≡ [];
  kept : GoesOnWith l.initial.cache
      (record l.cache {
        walk = record l.cache.walk { memory = record l.cache.walk.memory { next = [] } };
      });
}
