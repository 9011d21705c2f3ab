pub mod MethodViews
