-- The proofs of the exported responses. LentSlices: what the functions leave in the slices that a host lends. OneReply:
-- any two replies and contents of lent slices that a promise allows are equal. The other folders prove one function
-- each.
pub mod LentSlices
pub mod OneReply
