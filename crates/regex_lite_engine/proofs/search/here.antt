pub mod HereLemmas
