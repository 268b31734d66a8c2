pub mod Agendas
pub mod ReadingLists
pub mod Binds
pub mod Bools
pub mod Options
pub mod Lists
