-- The definitions of a collection: Collect, what each response comes to.
pub mod Collect
