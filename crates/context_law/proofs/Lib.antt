pub mod OneShareLemmas
