pub mod BindNames
pub mod BindView
pub mod ScopeView
pub mod PeerDrafts
pub mod PeerViews
