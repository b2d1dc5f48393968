-- What the definitions say: document 02's sentences about chains and about the call, and what the proofs cite.
pub mod Chains
pub mod Calls
