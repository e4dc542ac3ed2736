-- What a class byte says: rules 8.1 to 8.7, and refusal 3.
pub mod Class
pub mod Range
pub mod SecureMessaging
pub mod Chain
pub mod Channel
